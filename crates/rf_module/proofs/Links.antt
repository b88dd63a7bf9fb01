-- The nodes of a region's tree: each is had as the rules tell of it with the nodes before it, and the slots of a widened one lead to nodes that
-- have the lanes of the slots.
use Rattle.std.proofs.Common.{◌≡◌, refl, sym, ap, ◌∙◌, subst, ℕ, zero, suc, ◌+◌, ◌≤◌, Bool, false, not, ◌&&◌, ◌||◌, Option, None, Some, List, [], ◌∷◌, ◌++◌, cond, slice_get, take, option_map, arith, length, append_assoc}
use Rattle.std.specs.Bool.{⊤}
use Rattle.std.specs.Prelude.{is_none}
use Rattle.std.specs.List.{list_any, list_all}
use Rattle.ir_types.specs.declared.id.Id.{Id}
use Rattle.ir_types.specs.declared.opd.Opd.{Opd}
use Rattle.ir_types.specs.declared.inst.Inst.{Inst}
use Rattle.ir_types.specs.declared.module.Module.{Module}
use Rattle.ir_types.specs.Formed.{ids_of as module_ids}
use Rattle.ir_types.proofs.Formed.{Every}
use Rattle.vx_view.specs.Answers.{find}
use Rattle.sb_uses.specs.Totals.{id_times}
use Rattle.vx_serial.specs.declared.cause.Cause.{Cause}
use Rattle.vx_serial.specs.declared.node.How.{How}
use Rattle.vx_serial.specs.declared.node.How.TheVariants.{Widen, Reuse, Ident, Pack}
use Rattle.vx_serial.specs.declared.node.Node.{Node}
use Rattle.vx_serial.specs.Window.{order, joined}
use Rattle.vx_serial.specs.Bundles.{ids_of}
use Rattle.vx_serial.specs.Legal.{same_value, same_lanes, is_widened, reused, inst_of, insts_of, with_lane, is_literal, is_there, is_taken, bundles_of, early_causes, has_cycle, causes, first_cause, is_root, identity, packed, or_else, legal}
use Rattle.rf_module.specs.Trees.{Lead, slots_in, Complete, AllComplete, IsComplete, TreesAreComplete}
use Rattle.vx_serial.specs.Tree.{slot_count, Visit, visit_all, with_slots, node, visited, visit, values_of, last_in, tree_in, tree_of}
use Rattle.vx_serial.proofs.Decided.{true_false}
use Rattle.ir_types.specs.Formed.{IsFormed}
use Rattle.vx_view.specs.Answers.{found}
use Rattle.vx_view.specs.Addresses.{block_of}
use Rattle.rf_rewrite.proofs.Contexts.{Context, plug, times, ids_plug, found_plug}
use Rattle.rf_rewrite.proofs.Blocks.{here_of, times_few, operands_known}
use Rattle.rf_rewrite.proofs.Window.{Known, find_times}
use Rattle.rf_rewrite.proofs.Going.{no_more}
use Rattle.rf_rewrite.proofs.Trees.{TreeOk, LaneOk, NodeOk, lanes_are, joined_append, bundles_append, legal_ok, visit_ok, slots_bundles, lanes_insts, slots_known, lane_inst, empty_ok}
use Rattle.rf_rewrite.proofs.Facts.{append_none}

-- ---- nodes that are the same but for their slots

abbrev pub Same : List Node → List Node → Type 0
Same [] [] = ⊤
Same (x ∷ xs) (y ∷ ys) = (x.lanes ≡ y.lanes) × (x.how ≡ y.how) × Same xs ys
Same _ _ = ⊥

pub same_all : (xs : List Node) → Same xs xs
same_all [] = tt
same_all (x ∷ xs) = (refl, refl, same_all xs)

pub same_slots : (n : ℕ) (slots : List ℕ) (xs : List Node) → Same xs (with_slots n slots xs)
same_slots n slots [] = tt
same_slots zero slots (x ∷ xs) = (refl, refl, same_all xs)
same_slots (suc n) slots (x ∷ xs) = (refl, refl, same_slots n slots xs)

same_take : (n : ℕ) (xs ys : List Node) → Same xs ys → Same (take n xs) (take n ys)
same_take zero xs ys s = tt
same_take (suc n) [] [] s = tt
same_take (suc n) (x ∷ xs) (y ∷ ys) s = (s.0, s.1, same_take n xs ys s.2)
same_take (suc n) [] (y ∷ ys) s = elim s [ ]
same_take (suc n) (x ∷ xs) [] s = elim s [ ]

-- a node that is there is there in the other list, with its lanes
pub same_get : (q : ℕ) (xs ys : List Node) (n : Node) → Same xs ys → slice_get xs q ≡ Some n → (k : Node) × (slice_get ys q ≡ Some k) × (k.lanes ≡ n.lanes) × (k.how ≡ n.how)
same_get q [] ys n s e = absurd cc
same_get q (x ∷ xs) [] n s e = elim s [ ]
same_get zero (x ∷ xs) (y ∷ ys) n s e = (y, refl, sym s.0 ∙ ap (λ (v : Node). v.lanes) (some_is e), sym s.1 ∙ ap (λ (v : Node). v.how) (some_is e))
  where
    some_is : Some x ≡ Some n → x ≡ n
    some_is r = cc
same_get (suc q) (x ∷ xs) (y ∷ ys) n s e = same_get q xs ys n s.2 e

-- ---- what the rules tell does not see slots

reused_same : (at : ℕ) (lanes : List Opd) (xs ys : List Node) → Same xs ys → reused at lanes xs ≡ reused at lanes ys
reused_same at lanes [] [] s = refl
reused_same at lanes (x ∷ xs) (y ∷ ys) s =
    ap (λ h. cond (is_widened h && same_lanes x.lanes lanes) (Some at) (reused (suc at) lanes xs)) s.1
    ∙ ap (λ l. cond (is_widened y.how && same_lanes l lanes) (Some at) (reused (suc at) lanes xs)) s.0
    ∙ ap (λ r. cond (is_widened y.how && same_lanes y.lanes lanes) (Some at) r) (reused_same (suc at) lanes xs ys s.2)
reused_same at lanes [] (y ∷ ys) s = elim s [ ]
reused_same at lanes (x ∷ xs) [] s = elim s [ ]

taken_same : (o : Opd) (xs ys : List Node) → Same xs ys → is_taken xs o ≡ is_taken ys o
taken_same o [] [] s = refl
taken_same o (x ∷ xs) (y ∷ ys) s =
    ap (λ h. (is_widened h && list_any (same_value o) x.lanes) || is_taken xs o) s.1
    ∙ ap (λ l. (is_widened y.how && list_any (same_value o) l) || is_taken xs o) s.0
    ∙ ap (λ r. (is_widened y.how && list_any (same_value o) y.lanes) || r) (taken_same o xs ys s.2)
taken_same o [] (y ∷ ys) s = elim s [ ]
taken_same o (x ∷ xs) [] s = elim s [ ]

any_taken_same : (lanes : List Opd) (xs ys : List Node) → Same xs ys → list_any (is_taken xs) lanes ≡ list_any (is_taken ys) lanes
any_taken_same [] xs ys s = refl
any_taken_same (o ∷ os) xs ys s = ap (λ b. b || list_any (is_taken xs) os) (taken_same o xs ys s) ∙ ap (λ b. is_taken ys o || b) (any_taken_same os xs ys s)

root_same : (xs ys : List Node) → Same xs ys → is_root xs ≡ is_root ys
root_same [] [] s = refl
root_same (x ∷ xs) (y ∷ ys) s = refl
root_same [] (y ∷ ys) s = elim s [ ]
root_same (x ∷ xs) [] s = elim s [ ]

bundles_same : (block : List Inst) (xs ys : List Node) → Same xs ys → bundles_of block xs ≡ bundles_of block ys
bundles_same block [] [] s = refl
bundles_same block (x ∷ xs) (y ∷ ys) s =
    ap (λ h. cond (is_widened h) (ids_of (insts_of block x.lanes) ∷ bundles_of block xs) (bundles_of block xs)) s.1
    ∙ ap (λ l. cond (is_widened y.how) (ids_of (insts_of block l) ∷ bundles_of block xs) (bundles_of block xs)) s.0
    ∙ ap (λ bs. cond (is_widened y.how) (ids_of (insts_of block y.lanes) ∷ bs) bs) (bundles_same block xs ys s.2)
bundles_same block [] (y ∷ ys) s = elim s [ ]
bundles_same block (x ∷ xs) [] s = elim s [ ]

pub legal_same : (m : Module) (block : List Inst) (last : Id) (xs ys : List Node) (lanes : List Opd) → Same xs ys → legal m block last xs lanes ≡ legal m block last ys lanes
legal_same m block last xs ys lanes s =
    ap (λ r. or_else (option_map Reuse r) (or_else (option_map Ident (identity m block lanes)) (packed (first_cause (causes m block last xs lanes (insts_of block lanes)))))) (reused_same 0 lanes xs ys s)
    ∙ ap (λ cs. or_else (option_map Reuse (reused 0 lanes ys)) (or_else (option_map Ident (identity m block lanes)) (packed (first_cause cs)))) all
  where
    all : causes m block last xs lanes (insts_of block lanes) ≡ causes m block last ys lanes (insts_of block lanes)
    all =
        ap (λ b. told b (list_any (is_taken xs) lanes) (has_cycle m block last xs (insts_of block lanes))) (root_same xs ys s)
        ∙ ap (λ b. told (is_root ys) b (has_cycle m block last xs (insts_of block lanes))) (any_taken_same lanes xs ys s)
        ∙ ap (λ bs. told (is_root ys) (list_any (is_taken ys) lanes) (is_none (order m block last (bs ++ ids_of (insts_of block lanes) ∷ [])))) (bundles_same block xs ys s)
      where
        is : List Inst
        is = insts_of block lanes

        told : Bool → Bool → Bool → List (Bool × Cause)
        told root taken cycle =
            ((list_all is_literal lanes, Rattle.vx_serial.specs.declared.cause.Cause.TheVariants.Constants)
            ∷ (not (list_all (λ o. is_there (inst_of block o)) lanes), Rattle.vx_serial.specs.declared.cause.Cause.TheVariants.Outside)
            ∷ (not (list_all (Rattle.vx_serial.specs.Legal.may_widen root) is), Rattle.vx_serial.specs.declared.cause.Cause.TheVariants.Kind)
            ∷ (not (Rattle.vx_serial.specs.Legal.are_like m is), Rattle.vx_serial.specs.declared.cause.Cause.TheVariants.Unlike)
            ∷ (list_any (Rattle.vx_serial.specs.Legal.is_wide m (length lanes)) is, Rattle.vx_serial.specs.declared.cause.Cause.TheVariants.Wide)
            ∷ (Rattle.vx_serial.specs.Legal.are_repeated is, Rattle.vx_serial.specs.declared.cause.Cause.TheVariants.Repeated)
            ∷ (taken, Rattle.vx_serial.specs.declared.cause.Cause.TheVariants.Taken)
            ∷ (not (list_all (Rattle.vx_serial.specs.Legal.is_among (Rattle.vx_serial.specs.Near.looked_at block last)) is), Rattle.vx_serial.specs.declared.cause.Cause.TheVariants.Far)
            ∷ (not (Rattle.vx_serial.specs.Legal.are_in_a_row block is), Rattle.vx_serial.specs.declared.cause.Cause.TheVariants.Apart) ∷ [])
            ++ (cycle, Rattle.vx_serial.specs.declared.cause.Cause.TheVariants.Cycle) ∷ []

-- ---- nodes that are complete

module _ (m : Module) (block : List Inst) (last : Id) where
  lead_same : (xs ys : List Node) (slots : List (List Opd)) (qs : List ℕ) → Same xs ys → Lead xs slots qs → Lead ys slots qs
  lead_same xs ys [] [] s h = tt
  lead_same xs ys (l ∷ ls) (q ∷ qs) s h =
      let g = same_get q xs ys h.0.0 s h.0.1 in
      ((g.0, g.1, g.2 ∙ h.0.2), lead_same xs ys ls qs s h.1)
  lead_same xs ys [] (q ∷ qs) s h = elim h [ ]
  lead_same xs ys (l ∷ ls) [] s h = elim h [ ]

  complete_same : (xs ys : List Node) (q : ℕ) (n : Node) → Same xs ys → Complete m block last xs q n → Complete m block last ys q n
  complete_same xs ys q n s h = record {
    told = sym (legal_same m block last (take q xs) (take q ys) n.lanes (same_take q xs ys s)) ∙ h.told;
    leads = λ w. lead_same xs ys (slots_in block n.lanes) n.slots s (h.leads w);
  }

  all_same : (xs ys : List Node) (q : ℕ) (ns : List Node) → Same xs ys → AllComplete m block last xs q ns → AllComplete m block last ys q ns
  all_same xs ys q [] s h = tt
  all_same xs ys q (n ∷ ns) s h = (complete_same xs ys q n s h.0, all_same xs ys (suc q) ns s h.1)

  get_append : (xs ys : List Node) (q : ℕ) (n : Node) → slice_get xs q ≡ Some n → slice_get (xs ++ ys) q ≡ Some n
  get_append [] ys q n e = absurd cc
  get_append (x ∷ xs) ys zero n e = e
  get_append (x ∷ xs) ys (suc q) n e = get_append xs ys q n e

  lead_append : (xs ys : List Node) (slots : List (List Opd)) (qs : List ℕ) → Lead xs slots qs → Lead (xs ++ ys) slots qs
  lead_append xs ys [] [] h = tt
  lead_append xs ys (l ∷ ls) (q ∷ qs) h = ((h.0.0, get_append xs ys q h.0.0 h.0.1, h.0.2), lead_append xs ys ls qs h.1)
  lead_append xs ys [] (q ∷ qs) h = elim h [ ]
  lead_append xs ys (l ∷ ls) [] h = elim h [ ]

  take_append : (xs ys : List Node) (q : ℕ) → q ≤ length xs → take q (xs ++ ys) ≡ take q xs
  take_append xs ys zero le = refl
  take_append [] ys (suc q) le = absurd (omega (arith, le))
  take_append (x ∷ xs) ys (suc q) le = ap (λ u. x ∷ u) (take_append xs ys q (omega (arith, le)))

  complete_append : (xs ys : List Node) (q : ℕ) (n : Node) → q ≤ length xs → Complete m block last xs q n → Complete m block last (xs ++ ys) q n
  complete_append xs ys q n le h = record {
    told = ap (λ t. legal m block last t n.lanes) (take_append xs ys q le) ∙ h.told;
    leads = λ w. lead_append xs ys (slots_in block n.lanes) n.slots (h.leads w);
  }

  all_append : (xs ys : List Node) (q : ℕ) (ns : List Node) → q + length ns ≤ length xs → AllComplete m block last xs q ns → AllComplete m block last (xs ++ ys) q ns
  all_append xs ys q [] le h = tt
  all_append xs ys q (n ∷ ns) le h = (complete_append xs ys q n (omega (arith, le)) h.0, all_append xs ys (suc q) ns (omega (arith, le)) h.1)

  all_both : (tree : List Node) (q : ℕ) (ns ks : List Node) → AllComplete m block last tree q ns → AllComplete m block last tree (q + length ns) ks → AllComplete m block last tree q (ns ++ ks)
  all_both tree q [] ks h k = subst (λ j. AllComplete m block last tree j ks) (omega (arith)) k
  all_both tree q (n ∷ ns) ks h k = (h.0, all_both tree (suc q) ns ks h.1 (subst (λ j. AllComplete m block last tree j ks) (next q (length ns)) k))
    where
      next : (a b : ℕ) → a + suc b ≡ suc a + b
      next a b = omega (arith)

  -- ---- visits

  -- a visit of lanes adds nodes, all complete, of which the first has the lanes
  pub record Grown (tree now : List Node) (lanes : List Opd) : Type 0 where
    pub first : Node
    pub rest : List Node
    pub are : now ≡ tree ++ first ∷ rest
    pub has : first.lanes ≡ lanes
    pub complete : AllComplete m block last now (length tree) (first ∷ rest)

  -- visits of slots one after another
  pub record AllGrown (tree now : List Node) (slots : List (List Opd)) (before numbers : List ℕ) : Type 0 where
    pub more : List Node
    pub are : now ≡ tree ++ more
    pub complete : AllComplete m block last now (length tree) more
    pub new : List ℕ
    pub numbers_are : numbers ≡ before ++ new
    pub leads : Lead now slots new

  length_append : (xs ys : List Node) → length (xs ++ ys) ≡ length xs + length ys
  length_append [] ys = omega (arith)
  length_append (x ∷ xs) ys = let rest = length_append xs ys in omega (arith, rest)

  get_there : (xs ys : List Node) (n : Node) → slice_get (xs ++ n ∷ ys) (length xs) ≡ Some n
  get_there [] ys n = refl
  get_there (x ∷ xs) ys n = get_there xs ys n

  numbers_append : (xs : List ℕ) (x : ℕ) (ys : List ℕ) → (xs ++ x ∷ []) ++ ys ≡ xs ++ x ∷ ys
  numbers_append [] x ys = refl
  numbers_append (y ∷ xs) x ys = ap (λ u. y ∷ u) (numbers_append xs x ys)

  module _ (globals : ℕ) (base : Id → ℕ) (based : (y : Id) → id_times y (module_ids m) ≡ base y)
      (operands : (x : Id) (i : Inst) → find x block ≡ Some i → Every (Known globals base) i.opds) where
    abbrev Ok : List Node → Type 0
    Ok = TreeOk globals base m block last based operands

    -- how many lanes are taken
    abbrev tally : List Node → ℕ
    tally tree = length (joined (bundles_of block tree))

    -- a visit that goes deep enough
    abbrev Grows : Visit → ℕ → Type 0
    Grows f n =
        (tree : List Node) (lanes : List Opd) → Ok tree → Every (Known globals base) lanes → suc (length block) ≤ n + tally tree → Grown tree (f tree lanes) lanes × (tally tree ≤ tally (f tree lanes))

    tally_append : (xs ys : List Node) → tally xs ≤ tally (xs ++ ys)
    tally_append xs ys =
        let all : tally (xs ++ ys) ≡ length (joined (bundles_of block xs) ++ joined (bundles_of block ys)) =
        ap (λ bs. length (joined bs)) (bundles_append globals base m block last based operands xs ys) ∙ ap length (joined_append (bundles_of block xs) (bundles_of block ys)) in
        let sum = long (joined (bundles_of block xs)) (joined (bundles_of block ys)) in
        omega (arith, all, sum)
      where
        long : (xs ys : List Id) → length (xs ++ ys) ≡ length xs + length ys
        long [] ys = omega (arith)
        long (x ∷ xs) ys = let rest = long xs ys in omega (arith, rest)

    -- no more lanes are taken than the block has instructions
    tally_few : (tree : List Node) → Ok tree → tally tree ≤ length block
    tally_few tree ok = no_more (joined (bundles_of block tree)) block ok.once (λ y h. (let l = lanes_are globals base m block last based operands y tree ok.nodes h in find_times y block l.inst l.stands))

    module _ (f : Visit) (n : ℕ) (grows : Grows f n) (keeps : (tree : List Node) (lanes : List Opd) → Ok tree → Every (Known globals base) lanes → Ok (f tree lanes)) where
      visits_grow : (slots : List (List Opd)) (tree : List Node) (numbers : List ℕ) → Every (Every (Known globals base)) slots → Ok tree → suc (length block) ≤ n + tally tree →
          AllGrown tree (visit_all f slots tree numbers).0 slots numbers (visit_all f slots tree numbers).1
      visits_grow [] tree numbers k ok deep = record { more = []; are = sym (append_none tree); complete = tt; new = []; numbers_are = none numbers; leads = tt }
        where
          none : (xs : List ℕ) → xs ≡ xs ++ []
          none [] = refl
          none (x ∷ xs) = ap (λ u. x ∷ u) (none xs)
      visits_grow (lanes ∷ slots) tree numbers k ok deep =
          let g = grows tree lanes ok k.0 deep in
          let ok_now = keeps tree lanes ok k.0 in
          let le = g.1 in
          then g.0 (visits_grow slots (f tree lanes) (numbers ++ length tree ∷ []) k.1 ok_now (omega (arith, le, deep)))
        where
          end : List Node
          end = (visit_all f slots (f tree lanes) (numbers ++ length tree ∷ [])).0

          then : Grown tree (f tree lanes) lanes → AllGrown (f tree lanes) end slots (numbers ++ length tree ∷ []) (visit_all f slots (f tree lanes) (numbers ++ length tree ∷ [])).1 →
              AllGrown tree end (lanes ∷ slots) numbers (visit_all f slots (f tree lanes) (numbers ++ length tree ∷ [])).1
          then g r = record {
            more = (g.first ∷ g.rest) ++ r.more;
            are = whole;
            complete = all_both end (length tree) (g.first ∷ g.rest) r.more
                (subst (λ t. AllComplete m block last t (length tree) (g.first ∷ g.rest)) (sym r.are)
                (all_append (f tree lanes) r.more (length tree) (g.first ∷ g.rest) (let long = ap length g.are in let sum = length_append tree (g.first ∷ g.rest) in omega (arith, long, sum)) g.complete))
                (subst (λ j. AllComplete m block last end j r.more) (ap length g.are ∙ length_append tree (g.first ∷ g.rest)) r.complete);
            new = length tree ∷ r.new;
            numbers_are = r.numbers_are ∙ numbers_append numbers (length tree) r.new;
            leads = ((g.first, ap (λ t. slice_get t (length tree)) whole ∙ get_there tree (g.rest ++ r.more) g.first, g.has), r.leads);
          }
            where
              whole : end ≡ tree ++ ((g.first ∷ g.rest) ++ r.more)
              whole = r.are ∙ ap (λ t. t ++ r.more) g.are ∙ append_assoc tree (g.first ∷ g.rest) r.more

    -- ---- one more node

    take_whole : (xs ys : List Node) → take (length xs) (xs ++ ys) ≡ xs
    take_whole [] ys = refl
    take_whole (x ∷ xs) ys = ap (λ u. x ∷ u) (take_whole xs ys)

    never_empty : (tree : List Node) (lanes : List Opd) → legal m block last tree lanes ≡ Widen → (o : Opd) × (os : List Opd) × (lanes ≡ o ∷ os)
    never_empty tree [] e = absurd (by_reuse (reused 0 [] tree) e)
      where
        by_reuse : (r : Option ℕ) → or_else (option_map Reuse r) (or_else (option_map Ident (identity m block [])) (packed (first_cause (causes m block last tree [] [])))) ≡ Widen → ⊥
        by_reuse None h = cc
        by_reuse (Some n) h = cc
    never_empty tree (o ∷ os) e = (o, os, refl)

    -- a node that is not widened has no slots to fill
    one_node : (tree : List Node) (lanes : List Opd) (how : How) → legal m block last tree lanes ≡ how → is_widened how ≡ false → Grown tree (tree ++ node lanes how ∷ []) lanes
    one_node tree lanes how e w = record {
      first = node lanes how;
      rest = [];
      are = refl;
      has = refl;
      complete = (
        record { told = ap (λ t. legal m block last t lanes) (take_whole tree (node lanes how ∷ [])) ∙ e; leads = λ t. absurd (true_false (sym t ∙ w)) },
        tt,
      );
    }

    get_slots : (xs : List Node) (n : Node) (ys : List Node) (slots : List ℕ) → with_slots (length xs) slots (xs ++ n ∷ ys) ≡ xs ++ record { lanes = n.lanes; how = n.how; slots = slots } ∷ ys
    get_slots [] n ys slots = refl
    get_slots (x ∷ xs) n ys slots = ap (λ u. x ∷ u) (get_slots xs n ys slots)

    widened_tally : (tree : List Node) (lanes : List Opd) → Ok (tree ++ node lanes Widen ∷ []) → legal m block last tree lanes ≡ Widen → suc (tally tree) ≤ tally (tree ++ node lanes Widen ∷ [])
    widened_tally tree lanes ok e = by_lanes (never_empty tree lanes e)
      where
        long : (xs ys : List Id) → length (xs ++ ys) ≡ length xs + length ys
        long [] ys = omega (arith)
        long (x ∷ xs) ys = let rest = long xs ys in omega (arith, rest)

        last_ok : (xs : List Node) (n : Node) → Every (NodeOk globals base m block last based operands) (xs ++ n ∷ []) → NodeOk globals base m block last based operands n
        last_ok [] n h = h.0
        last_ok (x ∷ xs) n h = last_ok xs n h.1

        lanes_are_ok : Every (LaneOk globals base m block last based operands) lanes
        lanes_are_ok = (last_ok tree (node lanes Widen) ok.nodes).widens

        some : (os : List Opd) → lanes ≡ os → Every (LaneOk globals base m block last based operands) os → (o : Opd) (ps : List Opd) → os ≡ o ∷ ps → 1 ≤ length (ids_of (insts_of block lanes))
        some [] f k o ps g = absurd cc
        some (o ∷ os) f k p ps g =
            subst (λ l. 1 ≤ length (ids_of (insts_of block l))) (sym f)
            (subst (λ i. 1 ≤ length (ids_of (with_lane i (insts_of block os)))) (sym (lane_inst globals base m block last based operands o k.0)) (omega (arith)))

        by_lanes : (o : Opd) × (os : List Opd) × (lanes ≡ o ∷ os) → suc (tally tree) ≤ tally (tree ++ node lanes Widen ∷ [])
        by_lanes (o, os, f) =
            let all : tally (tree ++ node lanes Widen ∷ []) ≡ length (joined (bundles_of block tree) ++ (ids_of (insts_of block lanes) ++ [])) =
            ap (λ bs. length (joined bs)) (bundles_append globals base m block last based operands tree (node lanes Widen ∷ [])) ∙ ap length (joined_append (bundles_of block tree) (ids_of (insts_of block lanes) ∷ [])) in
            let sum = long (joined (bundles_of block tree)) (ids_of (insts_of block lanes) ++ []) in
            let then = long (ids_of (insts_of block lanes)) [] in
            let least = some lanes refl lanes_are_ok o os f in
            omega (arith, all, sum, then, least)

    module _ (f : Visit) (n : ℕ) (grows : Grows f n) (keeps : (tree : List Node) (lanes : List Opd) → Ok tree → Every (Known globals base) lanes → Ok (f tree lanes)) where
      visited_grows : (tree : List Node) (lanes : List Opd) (how : How) → legal m block last tree lanes ≡ how → Ok (tree ++ node lanes how ∷ []) → suc (length block) ≤ suc n + tally tree →
          Grown tree (visited f (slots_in block lanes) tree lanes how) lanes × (tally tree ≤ tally (visited f (slots_in block lanes) tree lanes how))
      visited_grows tree lanes (Reuse k) e ok deep = (one_node tree lanes (Reuse k) e refl, tally_append tree (node lanes (Reuse k) ∷ []))
      visited_grows tree lanes (Ident v) e ok deep = (one_node tree lanes (Ident v) e refl, tally_append tree (node lanes (Ident v) ∷ []))
      visited_grows tree lanes (Pack c) e ok deep = (one_node tree lanes (Pack c) e refl, tally_append tree (node lanes (Pack c) ∷ []))
      visited_grows tree lanes Widen e ok deep =
          let more = widened_tally tree lanes ok e in
          then (visits_grow f n grows keeps (slots_in block lanes) begun [] (slots_known globals base m block last based operands 0 (slot_count (insts_of block lanes)) (insts_of block lanes) (lanes_insts globals base m block last based operands lanes)) ok (omega (arith, deep, more)))
        where
          begun : List Node
          begun = tree ++ node lanes Widen ∷ []

          end : List Node
          end = (visit_all f (slots_in block lanes) begun []).0

          numbers : List ℕ
          numbers = (visit_all f (slots_in block lanes) begun []).1

          then : AllGrown begun end (slots_in block lanes) [] numbers → Grown tree (with_slots (length tree) numbers end) lanes × (tally tree ≤ tally (with_slots (length tree) numbers end))
          then g = (
            record {
              first = filled;
              rest = g.more;
              are = is;
              has = refl;
              complete = (
                record {
                  told = ap (λ t. legal m block last (take (length tree) t) lanes) is ∙ ap (λ t. legal m block last t lanes) (take_whole tree (filled ∷ g.more)) ∙ e;
                  leads = λ w. lead_same end (with_slots (length tree) numbers end) (slots_in block lanes) numbers (same_slots (length tree) numbers end) (subst (Lead end (slots_in block lanes)) (sym g.numbers_are) g.leads);
                },
                subst (λ j. AllComplete m block last (with_slots (length tree) numbers end) j g.more) (length_append tree (node lanes Widen ∷ []) ∙ one_more (length tree))
                    (all_same end (with_slots (length tree) numbers end) (length begun) g.more (same_slots (length tree) numbers end) g.complete),
              );
            },
            (let same : tally (with_slots (length tree) numbers end) ≡ tally end = ap (λ bs. length (joined bs)) (slots_bundles globals base m block last based operands (length tree) numbers end) in
                let grown = ap tally g.are in
                let one = tally_append begun g.more in
                let two = tally_append tree (node lanes Widen ∷ []) in
                omega (arith, same, grown, one, two)),
          )
            where
              filled : Node
              filled = record { lanes = lanes; how = Widen; slots = numbers }

              is : with_slots (length tree) numbers end ≡ tree ++ filled ∷ g.more
              is = ap (with_slots (length tree) numbers) (g.are ∙ append_assoc tree (node lanes Widen ∷ []) g.more) ∙ get_slots tree (node lanes Widen) g.more numbers

              one_more : (j : ℕ) → j + 1 ≡ suc j
              one_more j = omega (arith)

    visit_grows : (n : ℕ) → Grows (visit n m block last) n
    visit_grows zero tree lanes ok k deep = (let le = tally_few tree ok in absurd (omega (arith, le, deep)))
    visit_grows (suc n) tree lanes ok k deep =
        visited_grows (visit n m block last) n (visit_grows n) (visit_ok globals base m block last based operands n) tree lanes (legal m block last tree lanes) refl
        (legal_ok globals base m block last based operands tree lanes ok k) deep

    -- ---- the tree

    pub tree_complete : (stores : List Id) → Every (Known globals base) (values_of stores) → Grown [] (tree_in m block last stores) (values_of stores)
    tree_complete stores k = (visit_grows (suc (length block)) [] (values_of stores) (empty_ok globals base m block last based operands) k (omega (arith))).0

-- ---- the law

pub trees_complete : TreesAreComplete
trees_complete m s stores formed lawful =
    let h = here_of m s stores formed lawful in
    subst
    (λ n. IsFormed n → IsComplete n (block_of (found n s)) (last_in (s ∷ stores) s (block_of (found n s))) (s ∷ stores) (tree_of n (s ∷ stores)))
    h.whole (λ f. in_context h.context h.insts f h.store h.finds h.each) formed
  where
    in_context : (c : Context) (block : List Inst) → IsFormed (plug c block) → (store : Inst) → find s block ≡ Some store → Every (λ y. 1 ≤ times y block) (s ∷ stores) →
        IsComplete (plug c block) (block_of (found (plug c block) s)) (last_in (s ∷ stores) s (block_of (found (plug c block) s))) (s ∷ stores) (tree_of (plug c block) (s ∷ stores))
    in_context c block f store finds each =
        let le = times_few c block f s in
        let some = find_times s block store finds in
        subst (λ b. IsComplete (plug c block) b (last_in (s ∷ stores) s b) (s ∷ stores) (tree_in (plug c block) b (last_in (s ∷ stores) s b) (s ∷ stores)))
        (sym (ap block_of (found_plug c block s store finds (omega (arith, le, some)))))
        (complete_of (tree_complete (plug c block) block (last_in (s ∷ stores) s block) (length c.globals) (λ y. id_times y (module_ids (plug c block))) (λ y. refl) (operands_known c block f) (s ∷ stores) (known (s ∷ stores) each)))
      where
        known : (xs : List Id) → Every (λ y. 1 ≤ times y block) xs → Every (Known (length c.globals) (λ y. id_times y (module_ids (plug c block)))) (values_of xs)
        known [] h = tt
        known (y ∷ xs) h = ((let ids = ids_plug c block y in let some = h.0 in omega (arith, ids, some)), known xs h.1)

        complete_of : Grown (plug c block) block (last_in (s ∷ stores) s block) [] (tree_in (plug c block) block (last_in (s ∷ stores) s block) (s ∷ stores)) (values_of (s ∷ stores)) →
            IsComplete (plug c block) block (last_in (s ∷ stores) s block) (s ∷ stores) (tree_in (plug c block) block (last_in (s ∷ stores) s block) (s ∷ stores))
        complete_of g = record {
          root = g.first;
          rest = g.rest;
          are = g.are;
          lanes = g.has;
          nodes = subst (λ ns. AllComplete (plug c block) block (last_in (s ∷ stores) s block) (tree_in (plug c block) block (last_in (s ∷ stores) s block) (s ∷ stores)) 0 ns) (sym g.are) g.complete;
        }
