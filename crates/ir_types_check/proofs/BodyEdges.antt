-- The edges of a function: for two blocks, the second has the first among its sources as often as the first has the second among its targets.
use Rattle.std.proofs.Common.{◌≡◌, ℕ, zero, suc, ◌+◌, ◌-◌, ◌<◌, Bool, true, false, cond, not, ◌==◌, List, [], ◌∷◌, ◌++◌, length, map, refl, sym, ◌∙◌, ap, subst, arith, append_assoc, length-set}
use Rattle.std.proofs.lemmas.Bool.Decides.{Decides-eqb}
use Rattle.std.proofs.lemmas.List.{append-nil}
use Rattle.std.proofs.lemmas.List.Sums.{sum_by-append}
use Rattle.std.specs.Prelude.{slice_get, slice_set, replicate, nat_eq}
use Rattle.std.specs.List.{All, count_by}
use Rattle.std.proofs.lemmas.List.Elements.{All-head, All-tail}
use Rattle.ir_types.specs.declared.ty.Ty.{Ty}
use Rattle.ir_types.specs.declared.op.Op.{Op}
use Rattle.ir_types.specs.declared.op.Op.TheVariants as ops
use Rattle.ir_types.specs.declared.inst.Inst.{Inst}
use Rattle.ir_types.specs.declared.func.Block.{Block}
use Rattle.ir_types.specs.Available.{op_targets, targets_of, block_targets}
use Rattle.ir_types.specs.Walks.{targets_at}
use Rattle.ir_types.specs.Formed.{is_terminator, ends_from, EndsOnce}
use Rattle.ir_draft.specs.declared.draft.Numbered.{Numbered}
use Rattle.ir_types_check.specs.declared.outline.At.{At}
use Rattle.ir_types_check.specs.declared.locals.Meaning.{Meaning}
use Rattle.ir_types_check.specs.declared.tops.Top.{Top}
use Rattle.ir_types_check.specs.declared.building.Built.{Built}
use Rattle.ir_types_check.specs.Scope.{Scope}
use Rattle.ir_types_check.specs.Outline.{block_here}
use Rattle.ir_types_check.specs.Blocks.{closed, open_block, with_last, settled, with_inst, labelled}
use Rattle.ir_types_check.specs.Typed.{targets, case_targets, sources_at, with_edge, with_edges, count}
use Rattle.ir_types_check.proofs.Binding.{clash, both, not_true}
use Rattle.ir_types_check.proofs.BodyBlocks.{IsInst, Stays, IsWholeBlock}
use Rattle.ir_types_check.proofs.BodyLinks.{AreTargets, targets_are, AreLinked, links_are}

-- how often a list has a block
abbrev pub hits : ℕ → List ℕ → ℕ
hits to ts = count_by (λ b. b == to) ts

abbrev one_if : Bool → ℕ
one_if c = cond c 1 0

pub hits_append : (to : ℕ) (xs ys : List ℕ) → hits to (xs ++ ys) ≡ hits to xs + hits to ys
hits_append to xs ys = sum_by-append (λ b. one_if (b == to)) xs ys

pub hits_cons : (to x : ℕ) (xs : List ℕ) → hits to (x ∷ xs) ≡ one_if (x == to) + hits to xs
hits_cons to x xs = let e : hits to ((x ∷ []) ++ xs) ≡ hits to (x ∷ []) + hits to xs = sum_by-append (λ b. one_if (b == to)) (x ∷ []) xs in omega (arith, e)

count_push : (c from : ℕ) (xs : List ℕ) → count c (xs ++ from ∷ []) ≡ count c xs + one_if (nat_eq c from)
count_push c from xs = let e : count c (xs ++ from ∷ []) ≡ count c xs + count c (from ∷ []) = sum_by-append (λ y. one_if (nat_eq c y)) xs (from ∷ []) in omega (arith, e)

flip : (x y : ℕ) → nat_eq x y ≡ (y == x)
flip x y = here (nat_eq x y) refl where
  here : (b : Bool) → nat_eq x y ≡ b → b ≡ (y == x)
  here true e = sym ((Decides-eqb y x).1 (sym ((Decides-eqb x y).0 e)))
  here false e = other (y == x) refl where
    other : (d : Bool) → (y == x) ≡ d → false ≡ d
    other true f = clash (sym ((Decides-eqb x y).1 (sym ((Decides-eqb y x).0 f))) ∙ e)
    other false f = refl

pub count_hits : (c : ℕ) (xs : List ℕ) → count c xs ≡ hits c xs
count_hits c [] = refl
count_hits c (x ∷ xs) =
    let e : count c ((x ∷ []) ++ xs) ≡ count c (x ∷ []) + count c xs = sum_by-append (λ y. one_if (nat_eq c y)) (x ∷ []) xs in
    let f : hits c (x ∷ xs) ≡ one_if (x == c) + hits c xs = hits_cons c x xs in
    let g : one_if (nat_eq c x) ≡ one_if (x == c) = ap one_if (flip c x) in
    let h : count c xs ≡ hits c xs = count_hits c xs in
    omega (arith, e, f, g, h)

-- ---- sources

set_here : (S : List (List ℕ)) (to : ℕ) (v : List ℕ) → to < length S → sources_at (slice_set S to v) to ≡ v
set_here [] to v less = absurd (omega (arith, less))
set_here (x ∷ S) zero v less = refl
set_here (x ∷ S) (suc to) v less = set_here S to v (omega (arith, less))

set_there : (S : List (List ℕ)) (t to : ℕ) (v : List ℕ) → (t ≡ to → ⊥) → sources_at (slice_set S t v) to ≡ sources_at S to
set_there [] t to v apart = refl
set_there (x ∷ S) zero zero v apart = absurd (apart refl)
set_there (x ∷ S) zero (suc to) v apart = refl
set_there (x ∷ S) (suc t) zero v apart = refl
set_there (x ∷ S) (suc t) (suc to) v apart = set_there S t to v (λ e. apart (ap (λ n. suc n) e))

length_edge : (from : ℕ) (S : List (List ℕ)) (t : ℕ) → length (with_edge from S t) ≡ length S
length_edge from S t = length-set S t (sources_at S t ++ from ∷ [])

pub length_edges : (from : ℕ) (S : List (List ℕ)) (ts : List ℕ) → length (with_edges from S ts) ≡ length S
length_edges from S [] = refl
length_edges from S (t ∷ ts) = length_edges from (with_edge from S t) ts ∙ length_edge from S t

edge_count : (c from to t : ℕ) (S : List (List ℕ)) → to < length S → (c ≡ from) → count c (sources_at (with_edge from S t) to) ≡ count c (sources_at S to) + one_if (t == to)
edge_count c from to t S less same = here (t == to) refl where
  here : (b : Bool) → (t == to) ≡ b → count c (sources_at (with_edge from S t) to) ≡ count c (sources_at S to) + one_if b
  here true e =
      let is : t ≡ to = (Decides-eqb t to).0 e in
      let one : one_if (nat_eq c from) ≡ 1 = ap one_if ((Decides-eqb c from).1 same) in
      let put : sources_at (with_edge from S t) to ≡ sources_at S to ++ from ∷ [] = ap (λ x. sources_at (with_edge from S x) to) is ∙ set_here S to (sources_at S to ++ from ∷ []) less in
      ap (count c) put ∙ count_push c from (sources_at S to) ∙ ap (λ k. count c (sources_at S to) + k) one
  here false e =
      let apart : t ≡ to → ⊥ = λ s. clash (sym ((Decides-eqb t to).1 s) ∙ e) in
      ap (count c) (set_there S t to (sources_at S t ++ from ∷ []) apart) ∙ omega arith

edge_other : (c from to t : ℕ) (S : List (List ℕ)) → to < length S → (c ≡ from → ⊥) → count c (sources_at (with_edge from S t) to) ≡ count c (sources_at S to)
edge_other c from to t S less other = here (t == to) refl where
  zero_is : one_if (nat_eq c from) ≡ 0
  zero_is = none (nat_eq c from) refl where
    none : (b : Bool) → nat_eq c from ≡ b → one_if b ≡ 0
    none true e = absurd (other ((Decides-eqb c from).0 e))
    none false e = refl

  here : (b : Bool) → (t == to) ≡ b → count c (sources_at (with_edge from S t) to) ≡ count c (sources_at S to)
  here true e =
      let is : t ≡ to = (Decides-eqb t to).0 e in
      let put : sources_at (with_edge from S t) to ≡ sources_at S to ++ from ∷ [] = ap (λ x. sources_at (with_edge from S x) to) is ∙ set_here S to (sources_at S to ++ from ∷ []) less in
      let pushed : count c (sources_at S to ++ from ∷ []) ≡ count c (sources_at S to) + one_if (nat_eq c from) = count_push c from (sources_at S to) in
      ap (count c) put ∙ omega (arith, pushed, zero_is)
  here false e = ap (count c) (set_there S t to (sources_at S t ++ from ∷ []) (λ s. clash (sym ((Decides-eqb t to).1 s) ∙ e)))

pub edges_count : (from to : ℕ) (S : List (List ℕ)) (ts : List ℕ) → to < length S → count from (sources_at (with_edges from S ts) to) ≡ count from (sources_at S to) + hits to ts
edges_count from to S [] less = omega arith
edges_count from to S (t ∷ ts) less =
    let more : count from (sources_at (with_edges from (with_edge from S t) ts) to) ≡ count from (sources_at (with_edge from S t) to) + hits to ts =
    edges_count from to (with_edge from S t) ts (subst (λ n. to < n) (sym (length_edge from S t)) less) in
    let one : count from (sources_at (with_edge from S t) to) ≡ count from (sources_at S to) + one_if (t == to) = edge_count from from to t S less refl in
    let all : hits to (t ∷ ts) ≡ one_if (t == to) + hits to ts = hits_cons to t ts in
    omega (arith, more, one, all)

pub edges_other : (c from to : ℕ) (S : List (List ℕ)) (ts : List ℕ) → to < length S → (c ≡ from → ⊥) → count c (sources_at (with_edges from S ts) to) ≡ count c (sources_at S to)
edges_other c from to S [] less other = refl
edges_other c from to S (t ∷ ts) less other =
    edges_other c from to (with_edge from S t) ts (subst (λ n. to < n) (sym (length_edge from S t)) less) other ∙ edge_other c from to t S less other

-- ---- rows: the targets of all instructions of a block

abbrev pub insts_targets : List Inst → List ℕ
insts_targets [] = []
insts_targets (i ∷ insts) = op_targets i.op ++ insts_targets insts

abbrev pub row_at : List Block → List Inst → ℕ → List ℕ
row_at [] current zero = insts_targets current
row_at [] current (suc c) = []
row_at (b ∷ bs) current zero = insts_targets b.insts
row_at (b ∷ bs) current (suc c) = row_at bs current c

targets_push : (insts : List Inst) (i : Inst) → insts_targets (insts ++ i ∷ []) ≡ insts_targets insts ++ op_targets i.op
targets_push [] i = append-nil (op_targets i.op)
targets_push (x ∷ insts) i = ap (λ xs. op_targets x.op ++ xs) (targets_push insts i) ∙ sym (append_assoc (op_targets x.op) (insts_targets insts) (op_targets i.op))

row_here : (bs : List Block) (current : List Inst) (i : Inst) (c : ℕ) → c ≡ length bs → row_at bs (current ++ i ∷ []) c ≡ row_at bs current c ++ op_targets i.op
row_here [] current i zero e = targets_push current i
row_here [] current i (suc c) e = absurd (omega (arith, e))
row_here (b ∷ bs) current i zero e = absurd (omega (arith, e))
row_here (b ∷ bs) current i (suc c) e = row_here bs current i c (omega (arith, e))

row_there : (bs : List Block) (current : List Inst) (i : Inst) (c : ℕ) → (c ≡ length bs → ⊥) → row_at bs (current ++ i ∷ []) c ≡ row_at bs current c
row_there [] current i zero e = absurd (e refl)
row_there [] current i (suc c) e = refl
row_there (b ∷ bs) current i zero e = refl
row_there (b ∷ bs) current i (suc c) e = row_there bs current i c (λ s. e (ap (λ n. suc n) s))

row_push : (bs : List Block) (b : Block) (c : ℕ) → row_at (bs ++ b ∷ []) [] c ≡ row_at bs b.insts c
row_push [] b zero = refl
row_push [] b (suc zero) = refl
row_push [] b (suc (suc c)) = refl
row_push (x ∷ bs) b zero = refl
row_push (x ∷ bs) b (suc c) = row_push bs b c

abbrev pub row_of : Built → ℕ → List ℕ
row_of b c = row_at b.blocks (open_block b.current).insts c

row_with : (k : ℕ) (b : Built) (inst : Inst) (c : ℕ) → row_of (with_inst k b inst) c ≡ row_at b.blocks ((open_block b.current).insts ++ inst ∷ []) c
unfolding with_inst
row_with k b inst c = here (is_terminator inst.op) where
  here : (t : Bool) → row_of (settled t b.blocks (with_last (open_block b.current) inst) (b.lines ++ k ∷ [])) c ≡ row_at b.blocks ((open_block b.current).insts ++ inst ∷ []) c
  here true = row_push b.blocks (with_last (open_block b.current) inst) c
  here false = refl

-- the sources so far are those of the rows so far
pub record Edged (size : ℕ) (at : At) (S : List (List ℕ)) (b : Built) (rest : List Numbered) : Type 0 where
  pub many : length S ≡ size
  pub same : (c to : ℕ) → to < size → count c (sources_at S to) ≡ hits to (row_of b c)

pub edged : (tops : Scope Top) (locals : Scope Meaning) (ret : Ty) (edges : List (List ℕ)) (base size : ℕ) → Stays tops locals ret edges base (Edged size)
unfolding labelled
edged tops locals ret edges base size = record {
  on_label = λ at S b n name rest none h.
      let same : closed b.blocks b.current ≡ b.blocks = ap (closed b.blocks) none in
      let old : (open_block b.current).insts ≡ [] = ap (λ c. (open_block c).insts) none in
      record { many = h.many; same = λ c to less. h.same c to less ∙ ap (λ xs. hits to (row_at b.blocks xs c)) old ∙ ap (λ bs. hits to (row_at bs [] c)) (sym same) };
  on_case = λ at S b n value label rest h. record { many = h.many; same = h.same };
  on_end = λ at S b n rest h. record { many = h.many; same = h.same };
  on_stmt = λ at S b n s rest inst step h.
      let p : IsInst tops locals base (length b.lines) n s rest inst = step.parts in
      let links : AreLinked tops locals base n s.args s.labels p.links = links_are tops locals base n s p.links step.stands.uncalled step.stands.whole.placed p.linked_is in
      let own : AreTargets locals s.labels p.links.blocks p.cases s.op rest = targets_are locals s.labels p.links.blocks p.cases s.op rest links.blocks step.stands.sound.places p.cases_is in
      let is : op_targets inst.op ≡ targets locals s.labels s.op ++ case_targets locals s.op rest = ap op_targets p.op ∙ own.same in
      record {
        many = length_edges (block_here at) (with_edges (block_here at) S (targets locals s.labels s.op)) (case_targets locals s.op rest) ∙ length_edges (block_here at) S (targets locals s.labels s.op) ∙ h.many;
        same = λ c to less. grown at S b n inst (targets locals s.labels s.op) (case_targets locals s.op rest) step.here is c to (subst (λ k. to < k) (sym h.many) less) (h.same c to less);
      };
}
  where
    grown : (at : At) (S : List (List ℕ)) (b : Built) (n : ℕ) (inst : Inst) (ts us : List ℕ) → block_here at ≡ length b.blocks → op_targets inst.op ≡ ts ++ us → (c to : ℕ) → to < length S →
        count c (sources_at S to) ≡ hits to (row_of b c) → count c (sources_at (with_edges (block_here at) (with_edges (block_here at) S ts) us) to) ≡ hits to (row_of (with_inst n b inst) c)
    grown at S b n inst ts us place is c to less before = here (nat_eq c (block_here at)) refl where
      less' : to < length (with_edges (block_here at) S ts)
      less' = subst (λ k. to < k) (sym (length_edges (block_here at) S ts)) less

      here : (d : Bool) → nat_eq c (block_here at) ≡ d → count c (sources_at (with_edges (block_here at) (with_edges (block_here at) S ts) us) to) ≡ hits to (row_of (with_inst n b inst) c)
      here true e =
          let same : c ≡ block_here at = (Decides-eqb c (block_here at)).0 e in
          let first : count (block_here at) (sources_at (with_edges (block_here at) S ts) to) ≡ count (block_here at) (sources_at S to) + hits to ts = edges_count (block_here at) to S ts less in
          let second : count (block_here at) (sources_at (with_edges (block_here at) (with_edges (block_here at) S ts) us) to) ≡ count (block_here at) (sources_at (with_edges (block_here at) S ts) to) + hits to us =
          edges_count (block_here at) to (with_edges (block_here at) S ts) us less' in
          let row : row_of (with_inst n b inst) c ≡ row_of b c ++ (ts ++ us) =
          row_with n b inst c ∙ row_here b.blocks (open_block b.current).insts inst c (same ∙ place) ∙ ap (λ xs. row_of b c ++ xs) is in
          let all : hits to (row_of b c ++ (ts ++ us)) ≡ hits to (row_of b c) + hits to (ts ++ us) = hits_append to (row_of b c) (ts ++ us) in
          let two : hits to (ts ++ us) ≡ hits to ts + hits to us = hits_append to ts us in
          let was : count (block_here at) (sources_at S to) ≡ hits to (row_of b c) = ap (λ x. count x (sources_at S to)) (sym same) ∙ before in
          ap (λ x. count x (sources_at (with_edges (block_here at) (with_edges (block_here at) S ts) us) to)) same ∙ omega (arith, first, second, all, two, was) ∙ ap (hits to) (sym row)
      here false e =
          let apart : c ≡ block_here at → ⊥ = λ s. clash (sym ((Decides-eqb c (block_here at)).1 s) ∙ e) in
          let first : count c (sources_at (with_edges (block_here at) S ts) to) ≡ count c (sources_at S to) = edges_other c (block_here at) to S ts less apart in
          let second : count c (sources_at (with_edges (block_here at) (with_edges (block_here at) S ts) us) to) ≡ count c (sources_at (with_edges (block_here at) S ts) to) =
          edges_other c (block_here at) to (with_edges (block_here at) S ts) us less' apart in
          second ∙ first ∙ before ∙ ap (hits to) (sym (row_with n b inst c ∙ row_there b.blocks (open_block b.current).insts inst c (λ s. apart (s ∙ sym place))))

-- ---- at the end the row of a block is that of its last instruction

no_targets : (op : Op) → is_terminator op ≡ false → op_targets op ≡ []
no_targets (ops.Br to) e = clash e
no_targets (ops.CondBr first second) e = clash e
no_targets (ops.Switch other cases to) e = clash e
no_targets _ e = refl

last_from : (i : Inst) (insts : List Inst) → ends_from i insts ≡ true → targets_of (slice_get (i ∷ insts) (length insts)) ≡ insts_targets (i ∷ insts)
last_from i [] e = sym (append-nil (op_targets i.op))
last_from i (j ∷ insts) e =
    let p : (not (is_terminator i.op) ≡ true) × (ends_from j insts ≡ true) = both (not (is_terminator i.op)) (ends_from j insts) e in
    let none : op_targets i.op ≡ [] = no_targets i.op (not_true (is_terminator i.op) p.0) in
    last_from j insts p.1 ∙ ap (λ xs. xs ++ insts_targets (j ∷ insts)) (sym none)

last_targets : (b : Block) → EndsOnce b.insts → block_targets b ≡ insts_targets b.insts
last_targets b e = here b.insts e where
  here : (insts : List Inst) → EndsOnce insts → targets_of (slice_get insts (length insts - 1)) ≡ insts_targets insts
  here [] e = absurd e
  here (i ∷ insts) e = let n : length (i ∷ insts) - 1 ≡ length insts = omega arith in ap (λ k. targets_of (slice_get (i ∷ insts) k)) n ∙ last_from i insts e

pub graph_rows : (blocks : List Block) (c : ℕ) → All IsWholeBlock blocks → targets_at (map block_targets blocks) c ≡ row_at blocks [] c
graph_rows [] zero h = refl
graph_rows [] (suc c) h = refl
graph_rows (b ∷ bs) zero h = last_targets b (All-head IsWholeBlock b bs h).ends
graph_rows (b ∷ bs) (suc c) h = graph_rows bs c (All-tail IsWholeBlock b bs h)

-- no block has a source at first
pub no_sources : (size c to : ℕ) → count c (sources_at (replicate size []) to) ≡ 0
no_sources zero c to = refl
no_sources (suc n) c zero = refl
no_sources (suc n) c (suc to) = no_sources n c to

pub no_rows : (c to : ℕ) → hits to (row_at [] [] c) ≡ 0
no_rows zero to = refl
no_rows (suc c) to = refl
