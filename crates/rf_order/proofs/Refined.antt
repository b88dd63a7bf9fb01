-- Neighbours of which the second does not depend on the first may swap, and so a window may come in its order.
use Rattle.std.proofs.Common.{◌≡◌, refl, sym, ap, ◌∙◌, subst, ℕ, Bool, true, false, ◌&&◌, ◌||◌, cond, Option, None, Some, List, [], ◌∷◌, ◌++◌, length, map}
use Rattle.std.specs.List.{list_any}
use Rattle.vx_num.specs.declared.operations.BinOp.{BinOp}
use Rattle.vx_num.specs.declared.operations.BinOp.TheVariants.{Udiv, Sdiv, Urem, Srem}
use Rattle.ir_types.specs.declared.id.Id.{Id}
use Rattle.ir_types.specs.declared.ty.Ty.{Ty}
use Rattle.ir_types.specs.declared.ty.Ty.TheVariants.{Int, Row}
use Rattle.ir_types.specs.declared.opd.Opd.{Opd}
use Rattle.ir_types.specs.declared.opd.Opd.TheVariants.{Val, Lit, Sym}
use Rattle.ir_types.specs.declared.op.Op.{Op}
use Rattle.ir_types.specs.declared.op.Op.TheVariants.{Bin, Load, Store, Alloca, Call, Unreachable, CondBr, Switch}
use Rattle.ir_types.specs.declared.inst.Inst.{Inst}
use Rattle.ir_types.specs.declared.func.Func.{Func}
use Rattle.ir_types.specs.declared.module.Module.{Module}
use Rattle.ir_types.specs.Formed.{given_ty, is_alloca, IsFormed}
use Rattle.ir_types.proofs.Among.{same_is, same_itself, swapped}
use Rattle.ir_model.specs.declared.value.Value.{Value}
use Rattle.ir_model.specs.declared.value.Value.TheVariants.{Lane as LaneValue, Row as RowValue}
use Rattle.ir_model.specs.Values.{Lane, same_id, value_of, type_of}
use Rattle.ir_model.specs.Memory.{Memory}
use Rattle.ir_model.specs.Accesses.{Effect, value_effect}
use Rattle.ir_model.specs.Step.{Went, Lost, Halts, On, then_go, Back, Reached, Calls, back_with, called_or, callee_of, effect_of, step}
use Rattle.ir_model.specs.Run.{is_terminator, exit_with, leave, run_insts, types_of}
use Rattle.ir_model.specs.Shapes.{CallsKeepShapes}
use Rattle.ir_model.specs.Causes.{HasNoQuotient, DividesBadly, IsCause}
use Rattle.ir_model.proofs.Acts.{BackRow}
use Rattle.vx_view.specs.Answers.{is_value}
use Rattle.vx_view.specs.Conflicts.{access_of, meet, is_division, is_call, minds_calls, conflict_in, depends}
use Rattle.vx_serial.specs.Window.{joined}
use Rattle.rf_order.specs.Rows.{steps, Instead, Reordered}
use Rattle.rf_order.specs.Swaps.{CallsKeepObjects, touch_of, AreNamed, Stays}
use Rattle.rf_order.specs.Steps.{uses, acts_in, AreFree, Passes, BothPlain, OverCall, CallOver}
use Rattle.vx_serial.specs.Bundles.{AreOnce, ids_of}
use Rattle.rf_order.specs.Ready.{Known, next, MayRun, MayRunAll, IsReady, AccessesKeepApart, WindowsRefine}
use Rattle.rf_order.proofs.Effects.{changes, reads, quiet_is, read_is, reads_kept, TouchSame}
use Rattle.rf_order.proofs.Swaps.{effects_pass, pair_swaps}
use Rattle.rf_order.proofs.Orders.{instead_then, reorder}
use Rattle.rf_order.proofs.Shapes.{run_shapes, named_of, row, step_ready}
use Rattle.rf_order.proofs.Apart.{keep_apart}
use Rattle.rf_order.proofs.Windows.{orders_reordered}
use Rattle.vx_serial.proofs.Decided.{neither, not_true, or_first, or_left, or_right, or_second, true_false}

-- ---- what a dependence is

uses_any : (x : Id) (os : List Opd) → list_any (is_value x) os ≡ uses x os
uses_any x [] = refl
uses_any x (Val v ∷ os) = ap (λ b. same_id v x || b) (uses_any x os)
uses_any x (Lit l ∷ os) = uses_any x os
uses_any x (Sym g ∷ os) = uses_any x os

-- where a later one does not depend on an earlier one
record IsFree (m : Module) (block : List Inst) (x y : Inst) : Type 0 where
  unused : uses x.id y.opds ≡ false
  call_first : is_call x.op && minds_calls y.op ≡ false
  call_last : is_call y.op && minds_calls x.op ≡ false
  meets : meet m block (access_of x) (access_of y) ≡ false
  allocas : is_alloca x.op && is_alloca y.op ≡ false

is_free : (m : Module) (block : List Inst) (x y : Inst) → depends m block y x ≡ false → IsFree m block x y
is_free m block x y h = record {
  unused = sym (uses_any x.id y.opds) ∙ or_left (list_any (is_value x.id) y.opds) (conflict_in m block x y) conflicts;
  call_first = or_left (is_call x.op && minds_calls y.op) (is_call y.op && minds_calls x.op) calls;
  call_last = or_right (is_call x.op && minds_calls y.op) (is_call y.op && minds_calls x.op) calls;
  meets = or_right (is_call x.op && minds_calls y.op || is_call y.op && minds_calls x.op) (meet m block (access_of x) (access_of y)) conflict;
  allocas = or_right (list_any (is_value x.id) y.opds || conflict_in m block x y) (is_alloca x.op && is_alloca y.op) h;
}
  where
    conflicts : list_any (is_value x.id) y.opds || conflict_in m block x y ≡ false
    conflicts = or_left (list_any (is_value x.id) y.opds || conflict_in m block x y) (is_alloca x.op && is_alloca y.op) h

    conflict : conflict_in m block x y ≡ false
    conflict = or_right (list_any (is_value x.id) y.opds) (conflict_in m block x y) conflicts

    calls : is_call x.op && minds_calls y.op || is_call y.op && minds_calls x.op ≡ false
    calls = or_left (is_call x.op && minds_calls y.op || is_call y.op && minds_calls x.op) (meet m block (access_of x) (access_of y)) conflict

called : (op : Op) (c : List ℕ) → callee_of op ≡ Some c → is_call op ≡ true
called (Call site) c e = refl
called op c e = absurd cc

called_minds : (op : Op) (c : List ℕ) → callee_of op ≡ Some c → minds_calls op ≡ true
called_minds (Call site) c e = refl
called_minds op c e = absurd cc

and_second : (a b : Bool) → a ≡ true → a && b ≡ false → b ≡ false
and_second true b h k = k
and_second false b h k = absurd cc

-- ---- what minds no call

quiet : (op : Op) → minds_calls op ≡ false → changes op ≡ false
quiet (Store align) h = absurd (true_false h)
quiet (Alloca elem align) h = absurd (true_false h)
quiet op h = refl

untouched : (op : Op) (t : Ty) (vs : List Value) (m n : Memory) → minds_calls op ≡ false → TouchSame (touch_of op t vs) m n
untouched (Load align) t vs m n h = absurd (true_false h)
untouched (Store align) t vs m n h = absurd (true_false h)
untouched op t vs m n h = tt

no_quotient : (op : BinOp) (w : ℕ) (a b : Lane) → is_division op ≡ false → HasNoQuotient op w a b → ⊥
no_quotient Udiv w a b h q = true_false h
no_quotient Sdiv w a b h q = true_false h
no_quotient Urem w a b h q = true_false h
no_quotient Srem w a b h q = true_false h
no_quotient op w a b h q = true_false (sym q)

no_division : (op : BinOp) (t : Ty) (vs : List Value) → is_division op ≡ false → DividesBadly op t vs → ⊥
no_division op (Int w) (LaneValue a ∷ LaneValue b ∷ []) h d = no_quotient op w a b h d
no_division op (Row n w) (RowValue xs ∷ RowValue ys ∷ []) h d = no_quotient op w d.1 d.2 h d.5
no_division op t vs h d = elim d [ ]

no_cause : (calls : Calls) (op : Op) (t : Ty) (vs : List Value) (m : Memory) (left : ℕ) → minds_calls op ≡ false → is_terminator op ≡ false → IsCause calls op t vs m left → ⊥
no_cause calls (Bin op flags) t vs m left h e c = no_division op t vs h c
no_cause calls (Load align) t vs m left h e c = true_false h
no_cause calls (Store align) t vs m left h e c = true_false h
no_cause calls (Call site) t vs m left h e c = true_false h
no_cause calls Unreachable t vs m left h e c = true_false e
no_cause calls (CondBr first second) t vs m left h e c = true_false e
no_cause calls (Switch other cases to) t vs m left h e c = true_false e
no_cause calls op t vs m left h e c = elim c [ ]

-- ---- knowledge

all_same : (m : Module) (f : Func) (block : List Inst) (k l : Known) (is : List Inst) → ((z : Id) → k.values z ≡ l.values z) → MayRunAll m f block k is → MayRunAll m f block l is
all_same m f block k l [] h v = tt
all_same m f block k l (i ∷ is) h v = (
  record { statement = v.0.statement; there = λ z u. sym (h z) ∙ v.0.there z u; fresh = sym (h i.id) ∙ v.0.fresh },
  all_same m f block (next k i) (next l i) is (λ z. ap (λ b. same_id i.id z || b) (h z)) v.1,
)

-- the second may run first
run_first : (m : Module) (f : Func) (block : List Inst) (k : Known) (x y : Inst) → uses x.id y.opds ≡ false → MayRun m f block (next k x) y → MayRun m f block k y
run_first m f block k x y unused may = record {
  statement = may.statement;
  there = λ z u. by_id z u (same_id x.id z) refl (may.there z u);
  fresh = or_right (same_id x.id y.id) (k.values y.id) may.fresh;
}
  where
    by_id : (z : Id) → uses z y.opds ≡ true → (b : Bool) → same_id x.id z ≡ b → (b || k.values z) ≡ true → k.values z ≡ true
    by_id z u true e h = absurd (true_false (sym u ∙ ap (λ z. uses z y.opds) (sym (same_is x.id z e)) ∙ unused))
    by_id z u false e h = h

run_then : (m : Module) (f : Func) (block : List Inst) (k : Known) (x y : Inst) → MayRun m f block k x → MayRun m f block (next k x) y → MayRun m f block (next k y) x
run_then m f block k x y mx my = record {
  statement = mx.statement;
  there = λ z u. or_second (same_id y.id z) (k.values z) (mx.there z u);
  fresh = neither (same_id y.id x.id) (k.values x.id) (swapped y.id x.id ∙ or_left (same_id x.id y.id) (k.values y.id) my.fresh) mx.fresh;
}

or_turn : (a b c : Bool) → (a || (b || c)) ≡ (b || (a || c))
or_turn true true c = refl
or_turn true false c = refl
or_turn false b c = refl

-- ---- the swap

pub accesses_apart : AccessesKeepApart
accesses_apart m f formed block k s ready x y mx my h = keep_apart m f formed block k s ready x y mx.statement mx.there my.statement my.there h

module _ (m : Module) (f : Func) (formed : IsFormed m) (block : List Inst) (calls : Calls) (keep : CallsKeepShapes m calls) (objects : CallsKeepObjects calls) where
  stays : (k : Known) (i : Inst) (r : Reached) → MayRun m f block k i → IsReady m f block k r.state → callee_of i.op ≡ None → minds_calls i.op ≡ false → Stays (acts_in (types_of f) r.state.env i) r.state.memory
  stays k i r may ready plain minds = by_effect (effect_of i.op i.ty Ts Vs r.state.memory) refl where
    Vs : List Value
    Vs = map (value_of r.state.env) i.opds

    Ts : List Ty
    Ts = map (type_of (types_of f)) i.opds

    Row : Went Back → Type 0
    Row w = BackRow (IsCause calls i.op i.ty (map (value_of r.state.env) i.opds) r.state.memory r.left) (given_ty i.op i.ty) (length r.state.memory) w

    came : (e : Option Effect) → effect_of i.op i.ty (map (type_of (types_of f)) i.opds) (map (value_of r.state.env) i.opds) r.state.memory ≡ e →
        BackRow (IsCause calls i.op i.ty (map (value_of r.state.env) i.opds) r.state.memory r.left) (given_ty i.op i.ty) (length r.state.memory) (back_with r.left e)
    came e is =
        subst (λ e. BackRow (IsCause calls i.op i.ty (map (value_of r.state.env) i.opds) r.state.memory r.left) (given_ty i.op i.ty) (length r.state.memory) (back_with r.left e)) is
        (subst (λ c. BackRow (IsCause calls i.op i.ty (map (value_of r.state.env) i.opds) r.state.memory r.left) (given_ty i.op i.ty) (length r.state.memory)
        (called_or calls (map (value_of r.state.env) i.opds) r.state.memory r.left (effect_of i.op i.ty (map (type_of (types_of f)) i.opds) (map (value_of r.state.env) i.opds) r.state.memory) c)) plain
        (row m f formed block calls keep k i r may ready))

    by_effect : (e : Option Effect) → effect_of i.op i.ty (map (type_of (types_of f)) i.opds) (map (value_of r.state.env) i.opds) r.state.memory ≡ e → Stays (acts_in (types_of f) r.state.env i) r.state.memory
    by_effect None is = elim (no_cause calls i.op i.ty (map (value_of r.state.env) i.opds) r.state.memory r.left minds may.statement.no_end (came None is)) [ ]
    by_effect (Some a) is =
        let q = quiet i.op minds in
        let v = read_is (reads i.op i.ty (map (type_of (types_of f)) i.opds) (map (value_of r.state.env) i.opds) r.state.memory) r.state.memory a (sym (quiet_is i.op i.ty (map (type_of (types_of f)) i.opds) (map (value_of r.state.env) i.opds) r.state.memory q) ∙ is) in
        record {
          result = Some v.value;
          same = λ after kept.
              quiet_is i.op i.ty (map (type_of (types_of f)) i.opds) (map (value_of r.state.env) i.opds) after q
              ∙ ap (λ v. value_effect v after)
              (reads_kept i.op i.ty (map (type_of (types_of f)) i.opds) (map (value_of r.state.env) i.opds) r.state.memory after q kept
              (named_of (length r.state.memory) (map (type_of (types_of f)) i.opds) (map (value_of r.state.env) i.opds) (run_shapes m f block k r.state ready formed i may).shapes)
              (untouched i.op i.ty (map (value_of r.state.env) i.opds) r.state.memory after minds) ∙ v.is);
        }

  pub neighbours : (k : Known) (x y : Inst) (r : Reached) → MayRun m f block k x → MayRun m f block (next k x) y → depends m block y x ≡ false → IsReady m f block k r.state →
      Instead (steps (types_of f) calls (y ∷ x ∷ []) r) (steps (types_of f) calls (x ∷ y ∷ []) r)
  neighbours k x y r mx my h ready = pair_swaps (types_of f) calls objects x y r are_free (by_callees (callee_of x.op) (callee_of y.op) refl refl) where
    free : IsFree m block x y
    free = is_free m block x y h

    first : MayRun m f block k y
    first = run_first m f block k x y free.unused my

    are_free : AreFree x y
    are_free = record {
      second_free = free.unused;
      first_free = not_true (uses y.id x.opds) (λ u. true_false (sym (mx.there y.id u) ∙ first.fresh));
      differ = λ z e. not_true (same_id z y.id) (λ d. true_false (sym (ap (λ v. same_id v y.id) (sym (same_is z x.id e)) ∙ d) ∙ or_left (same_id x.id y.id) (k.values y.id) my.fresh));
    }

    names : (i : Inst) → MayRun m f block k i → AreNamed (length r.state.memory) (map (value_of r.state.env) i.opds)
    names i may = named_of (length r.state.memory) (map (type_of (types_of f)) i.opds) (map (value_of r.state.env) i.opds) (run_shapes m f block k r.state ready formed i may).shapes

    by_callees : (c d : Option (List ℕ)) → callee_of x.op ≡ c → callee_of y.op ≡ d → Passes (types_of f) x y r.state.env r.state.memory
    by_callees None None ex ey =
        BothPlain ex ey
        (effects_pass x.op y.op x.ty y.ty (map (type_of (types_of f)) x.opds) (map (type_of (types_of f)) y.opds) (map (value_of r.state.env) x.opds) (map (value_of r.state.env) y.opds) r.state.memory
        (names x mx) (names y first) free.allocas (accesses_apart m f formed block k r.state ready x y mx first free.meets))
    by_callees (Some c) None ex ey = OverCall c ex ey (stays k y r first ready ey (and_second (is_call x.op) (minds_calls y.op) (called x.op c ex) free.call_first))
    by_callees None (Some d) ex ey = CallOver d ex ey (stays k x r mx ready ex (and_second (is_call y.op) (minds_calls x.op) (called y.op d ey) free.call_last))
    by_callees (Some c) (Some d) ex ey = absurd (true_false (sym (called_minds y.op d ey) ∙ and_second (is_call x.op) (minds_calls y.op) (called x.op c ex) free.call_first))

  pub rows : (k : Known) (old new : List Inst) (r : Reached) → Reordered (depends m block) old new → MayRunAll m f block k old → IsReady m f block k r.state →
      Instead (steps (types_of f) calls new r) (steps (types_of f) calls old r)
  rows k old new r re v ready =
      reorder next (MayRunAll m f block) (λ k r. IsReady m f block k r.state) (types_of f) calls (depends m block)
      (λ k i is v. v.1) (λ k i is js v w. (v.0, w))
      (λ k x y is h v. (
        run_first m f block k x y (is_free m block x y h).unused v.1.0,
        (run_then m f block k x y v.0 v.1.0, all_same m f block (next (next k x) y) (next (next k y) x) is (λ z. or_turn (same_id y.id z) (same_id x.id z) (k.values z)) v.1.1),
      ))
      (λ k i is r q v g e. step_ready m f formed block calls keep k i r q v.0 g e)
      (λ k x y is r v h g. neighbours k x y r v.0 v.1.0 h g)
      new old k r re v ready

-- ---- windows

no_more : (m : Module) (f : Func) (block : List Inst) (z : Id) (is : List Inst) (k : Known) → k.values z ≡ true → MayRunAll m f block k is → list_any (same_id z) (ids_of is) ≡ false
no_more m f block z [] k h v = refl
no_more m f block z (i ∷ is) k h v =
    neither (same_id z i.id) (list_any (same_id z) (ids_of is)) (not_true (same_id z i.id) (λ e. true_false (sym h ∙ ap k.values (same_is z i.id e) ∙ v.0.fresh)))
    (no_more m f block z is (next k i) (or_second (same_id i.id z) (k.values z) h) v.1)

pub all_once : (m : Module) (f : Func) (block : List Inst) (is : List Inst) (k : Known) → MayRunAll m f block k is → AreOnce (ids_of is)
all_once m f block [] k v = tt
all_once m f block (i ∷ is) k v = (no_more m f block i.id is (next k i) (or_first (same_id i.id i.id) (k.values i.id) (same_itself i.id)) v.1, all_once m f block is (next k i) v.1)

-- none of these ends a block
abbrev pub NoEnds : List Inst → Type 0
NoEnds [] = Unit {0}
NoEnds (i ∷ is) = (is_terminator i.op ≡ false) × NoEnds is

pub no_ends : (m : Module) (f : Func) (block : List Inst) (is : List Inst) (k : Known) → MayRunAll m f block k is → NoEnds is
no_ends m f block [] k v = tt
no_ends m f block (i ∷ is) k v = (v.0.statement.no_end, no_ends m f block is (next k i) v.1)

ends_out : (front rest : List Inst) (y : Inst) → NoEnds (front ++ y ∷ rest) → (is_terminator y.op ≡ false) × NoEnds (front ++ rest)
ends_out [] rest y h = h
ends_out (x ∷ front) rest y h = let r = ends_out front rest y h.1 in (r.0, (h.0, r.1))

pub ends_reordered : (depends : Inst → Inst → Bool) (new old : List Inst) → Reordered depends old new → NoEnds old → NoEnds new
ends_reordered depends [] old r h = tt
ends_reordered depends (y ∷ new) old (front, rest, is, none, more) h =
    let e = ends_out front rest y (subst NoEnds is h) in
    (e.0, ends_reordered depends new (front ++ rest) more e.1)

-- instructions that do not end a block, and the rest of it
pub insts_append : (types : Id → Ty) (calls : Calls) (is rest : List Inst) (r : Reached) → NoEnds is → run_insts types calls (is ++ rest) r ≡ then_go (steps types calls is r) (run_insts types calls rest)
insts_append types calls [] rest r h = refl
insts_append types calls (i ∷ is) rest r h =
    ap (λ t. cond t (exit_with r.left (leave i.op (map (value_of r.state.env) i.opds) r.state)) (then_go (step types calls i r) (run_insts types calls (is ++ rest)))) h.0
    ∙ by_step (step types calls i r) (λ q. insts_append types calls is rest q h.1)
  where
    by_step : (w : Went Reached) → ((q : Reached) → run_insts types calls (is ++ rest) q ≡ then_go (steps types calls is q) (run_insts types calls rest)) →
        then_go w (run_insts types calls (is ++ rest)) ≡ then_go (then_go w (steps types calls is)) (run_insts types calls rest)
    by_step Lost more = refl
    by_step (Halts m) more = refl
    by_step (On q) more = more q

pub windows : WindowsRefine
windows m f formed block calls keep objects k insts rest bundles are groups e v r ready =
    let re = orders_reordered m block insts bundles (all_once m f block insts k v) are groups e in
    let ends = no_ends m f block insts k v in
    subst (λ w. Instead w (run_insts (types_of f) calls (insts ++ rest) r)) (sym (insts_append (types_of f) calls (joined groups) rest r (ends_reordered (depends m block) (joined groups) insts re ends)))
    (subst (Instead (then_go (steps (types_of f) calls (joined groups) r) (run_insts (types_of f) calls rest))) (sym (insts_append (types_of f) calls insts rest r ends))
    (instead_then (steps (types_of f) calls (joined groups) r) (steps (types_of f) calls insts r) (run_insts (types_of f) calls rest)
    (rows m f formed block calls keep objects k insts (joined groups) r re v ready)))
