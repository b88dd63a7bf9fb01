-- What is written of the groups of a window: what it takes, what it knows, and of which kinds its instructions are.
use Rattle.std.proofs.Common.{◌≡◌, refl, sym, ap, ◌∙◌, subst, ℕ, zero, suc, ◌+◌, ◌<◌, ◌≤◌, ◌⊎◌, inl, inr, Bool, true, false, Option, None, Some, List, [], ◌∷◌, ◌++◌, cond, nat_eq, slice_get, arith, length, append_assoc}
use Rattle.std.specs.Bool.{⊤}
use Rattle.std.proofs.lemmas.Bool.Decides.{nat_tests}
use Rattle.ir_types.specs.declared.id.Id.{Id}
use Rattle.ir_types.specs.declared.ty.Ty.{Ty}
use Rattle.ir_types.specs.declared.literal.Literal.{Literal}
use Rattle.ir_types.specs.declared.opd.Opd.{Opd}
use Rattle.ir_types.specs.declared.opd.Opd.TheVariants.{Val, Lit, Sym}
use Rattle.ir_types.specs.declared.op.Op.{Op}
use Rattle.ir_types.specs.declared.op.Op.TheVariants as op
use Rattle.ir_types.specs.declared.inst.Inst.{Inst}
use Rattle.ir_types.specs.declared.module.Module.{Module}
use Rattle.ir_types.specs.Available.{same_id}
use Rattle.ir_types.proofs.Formed.{Every}
use Rattle.ir_types.proofs.Among.{same_is}
use Rattle.vx_view.specs.Answers.{find}
use Rattle.vx_serial.specs.declared.node.How.{How}
use Rattle.vx_serial.specs.declared.node.How.TheVariants.{Widen, Reuse, Ident, Pack}
use Rattle.vx_serial.specs.declared.node.Node.{Node}
use Rattle.vx_serial.specs.Window.{joined}
use Rattle.vx_serial.specs.Rewriting.{Made, Gathering, created, made, gathered, gather, row_of, first_ty, literal_of, index_of, vector_of, of_vector, slot_by, slot_of, slots_in, common_op, pointer_of, extracts, with_insts, with_vector, widened_by, bundle_of, group_by, group_in, written, is_created, is_id_in}
use Rattle.rf_rewrite.proofs.Contexts.{one_of, times, times_append}
use Rattle.rf_rewrite.proofs.Window.{Known, Moves, next_known, one_itself}
use Rattle.rf_rewrite.proofs.Taking.{TakesOf, next_taken, Takes}

-- ---- every

pub every_append : {A : Type 0} (P : A → Type 0) (xs ys : List A) → Every P xs → Every P ys → Every P (xs ++ ys)
every_append P [] ys h k = k
every_append P (x ∷ xs) ys h k = (h.0, every_append P xs ys h.1 k)

pub every_map : {A : Type 0} (P Q : A → Type 0) → ((x : A) → P x → Q x) → (xs : List A) → Every P xs → Every Q xs
every_map P Q f [] h = tt
every_map P Q f (x ∷ xs) h = (f x h.0, every_map P Q f xs h.1)

pub every_get : {A : Type 0} (P : A → Type 0) (xs : List A) (k : ℕ) (x : A) → Every P xs → slice_get xs k ≡ Some x → P x
every_get P [] k x h e = absurd cc
every_get P (y ∷ xs) zero x h e = subst P (some_is e) h.0
  where
    some_is : Some y ≡ Some x → y ≡ x
    some_is e = cc
every_get P (y ∷ xs) (suc k) x h e = every_get P xs k x h.1 e

-- the lanes of a node are known, and a vector that it is
abbrev pub IdentKnown : (Id → ℕ) → How → Type 0
IdentKnown base (Ident v) = 1 ≤ base v
IdentKnown base _ = ⊤

abbrev pub NodeKnown : ℕ → (Id → ℕ) → Node → Type 0
NodeKnown globals base n = Every (Known globals base) n.lanes × IdentKnown base n.how

module _ (globals region : ℕ) (lanes : List Id) (window : List Inst) (base : Id → ℕ) where
  -- ---- what is known

  -- so many values were created, and what was there is known
  pub record Ready (known : Id → ℕ) (next : ℕ) : Type 0 where
    pub were : (y : Id) → 1 ≤ base y → 1 ≤ known y
    pub are : (k : ℕ) → k < next → 1 ≤ known (created region k)
    pub free : (k : ℕ) → next ≤ k → known (created region k) ≡ 0

  abbrev pub KnownAt : ℕ → Opd → Type 0
  KnownAt n (Lit l) = ⊤
  KnownAt n (Sym g) = g < globals
  KnownAt n (Val v) = (1 ≤ base v) ⊎ ((k : ℕ) × (k < n) × (v ≡ created region k))

  pub known_at : (known : Id → ℕ) (n : ℕ) → Ready known n → (o : Opd) → KnownAt n o → Known globals known o
  known_at known n r (Lit l) h = tt
  known_at known n r (Sym g) h = h
  known_at known n r (Val v) (inl h) = r.were v h
  known_at known n r (Val v) (inr h) = subst (λ x. 1 ≤ known x) (sym h.2) (r.are h.0 h.1)

  pub later_at : (n m : ℕ) → n ≤ m → (o : Opd) → KnownAt n o → KnownAt m o
  later_at n m le (Lit l) h = tt
  later_at n m le (Sym g) h = h
  later_at n m le (Val v) (inl h) = inl h
  later_at n m le (Val v) (inr h) = inr (h.0, (let l = h.1 in omega (arith, l, le)), h.2)

  pub base_at : (n : ℕ) (o : Opd) → Known globals base o → KnownAt n o
  base_at n (Lit l) h = tt
  base_at n (Sym g) h = h
  base_at n (Val v) h = inl h

  -- ---- what is written

  -- an instruction is created, an extract of a lane, or one of the window that is no lane
  abbrev pub IsExtract : Inst → Type 0
  IsExtract i = (is_id_in lanes i.id ≡ true) × ((k : ℕ) × (l : Literal) × (i.opds ≡ Val (created region k) ∷ Lit l ∷ []))

  abbrev pub IsKept : Inst → Type 0
  IsKept i = (find i.id window ≡ Some i) × (is_id_in lanes i.id ≡ false)

  abbrev pub Kind : Inst → Type 0
  Kind i = (is_created region i ≡ true) ⊎ (IsExtract i ⊎ IsKept i)

  abbrev pub MayFollow : List Inst → (Id → ℕ) → ℕ → List Inst → Type 0
  MayFollow members taken next tail =
      (known now : Id → ℕ) → Ready known next → ((y : Id) → now y ≤ taken y + times y members) → Takes globals region lanes window known now tail

  -- from one state of the writing to another, of these members of the window
  pub record Adds (s t : Made) (members : List Inst) : Type 0 where
    pub new : List Inst
    pub are : t.insts ≡ s.insts ++ new
    pub more : s.next ≤ t.next
    pub takes : (known taken : Id → ℕ) → Ready known s.next → ((y : Id) → taken y + times y members ≤ 1) → (tail : List Inst) → MayFollow members taken t.next tail →
        Takes globals region lanes window known taken (new ++ tail)
    pub keeps : (y : Id) → 1 ≤ times y members → is_id_in lanes y ≡ false → 1 ≤ times y new
    pub kinds : Every Kind new

  append_none : (l : List Inst) → l ≡ l ++ []
  append_none [] = refl
  append_none (i ∷ l) = ap (λ u. i ∷ u) (append_none l)

  pub adds_none : (s : Made) → Adds s s []
  adds_none s = record {
    new = [];
    are = append_none s.insts;
    more = omega (arith);
    takes = λ known taken ready le tail follow. follow known taken ready (λ y. omega (arith));
    keeps = λ y some other. absurd (omega (arith, some));
    kinds = tt;
  }

  -- nothing was written, though something else of the state changed
  pub adds_same : (s t : Made) → t.insts ≡ s.insts → t.next ≡ s.next → Adds s t []
  adds_same s t e f = record {
    new = [];
    are = e ∙ append_none s.insts;
    more = omega (arith, f);
    takes = λ known taken ready le tail follow. follow known taken (subst (Ready known) (sym f) ready) (λ y. omega (arith));
    keeps = λ y some other. absurd (omega (arith, some));
    kinds = tt;
  }

  pub adds_then : (s t u : Made) (first second : List Inst) → Adds s t first → Adds t u second → Adds s u (first ++ second)
  adds_then s t u first second a b = record {
    new = a.new ++ b.new;
    are = b.are ∙ ap (λ l. l ++ b.new) a.are ∙ append_assoc s.insts a.new b.new;
    more = (let one = a.more in let two = b.more in omega (arith, one, two));
    takes = λ known taken ready le tail follow.
        subst (Takes globals region lanes window known taken) (sym (append_assoc a.new b.new tail))
        (a.takes known taken ready (λ y. let l = le y in let sum = times_append y first second in omega (arith, l, sum)) (b.new ++ tail)
        (λ k now r few. b.takes k now r (λ y. let l = le y in let f = few y in let sum = times_append y first second in omega (arith, l, f, sum)) tail
        (λ k2 now2 r2 few2. follow k2 now2 r2 (λ y. let f = few y in let g = few2 y in let sum = times_append y first second in omega (arith, f, g, sum)))));
    keeps = λ y some other. keep y some other (times_append y first second) (times_append y a.new b.new);
    kinds = every_append Kind a.new b.new a.kinds b.kinds;
  }
    where
      keep : (y : Id) → 1 ≤ times y (first ++ second) → is_id_in lanes y ≡ false → times y (first ++ second) ≡ times y first + times y second →
          times y (a.new ++ b.new) ≡ times y a.new + times y b.new → 1 ≤ times y (a.new ++ b.new)
      keep y some other sum all = by_first (times y first) refl
        where
          by_first : (n : ℕ) → times y first ≡ n → 1 ≤ times y (a.new ++ b.new)
          by_first zero e = let there = b.keeps y (omega (arith, some, sum, e)) other in omega (arith, there, all)
          by_first (suc n) e = let here = a.keeps y (omega (arith, e)) other in omega (arith, here, all)

  -- ---- one created instruction

  nat_same : (n : ℕ) → nat_eq n n ≡ true
  nat_same n = grind (arith, nat_tests)

  created_apart : (j k : ℕ) → j < k → same_id (created region j) (created region k) ≡ false
  created_apart j k less = by_test (same_id (created region j) (created region k)) refl
    where
      by_test : (b : Bool) → same_id (created region j) (created region k) ≡ b → b ≡ false
      by_test true e = let same : j ≡ k = ap (λ (x : Id). x.k) (same_is (created region j) (created region k) e) in absurd (omega (arith, same, less))
      by_test false e = refl

  abbrev new_inst : ℕ → Ty → Op → List Opd → Inst
  new_inst k ty o opds = record { id = created region k; name = None; ty = ty; op = o; opds = opds }

  ready_next : (known : Id → ℕ) (n : ℕ) → Ready known n → Ready (λ y. one_of (created region n) y + known y) (suc n)
  ready_next known n r = record {
    were = λ y h. let k = r.were y h in omega (arith, k);
    are = λ k less. have k less (r.are k);
    free = λ k le. none k le (r.free k);
  }
    where
      have : (k : ℕ) → k < suc n → (k < n → 1 ≤ known (created region k)) → 1 ≤ one_of (created region n) (created region k) + known (created region k)
      have k less was = by_eq (nat_eq n k) refl
        where
          by_eq : (b : Bool) → nat_eq n k ≡ b → 1 ≤ one_of (created region n) (created region k) + known (created region k)
          by_eq true e =
              let same : n ≡ k = grind (arith, nat_tests) in
              let one : one_of (created region n) (created region k) ≡ 1 = ap (λ j. one_of (created region n) (created region j)) (sym same) ∙ one_itself (created region n) in
              omega (arith, one)
          by_eq false e =
              let other : k < n = grind (arith, nat_tests) in
              let before = was other in
              omega (arith, before)

      none : (k : ℕ) → suc n ≤ k → (n ≤ k → known (created region k) ≡ 0) → one_of (created region n) (created region k) + known (created region k) ≡ 0
      none k le was =
          let apart : one_of (created region n) (created region k) ≡ 0 = ap (λ b. cond b 1 0) (created_apart n k (omega (arith, le))) in
          let zero = was (omega (arith, le)) in
          omega (arith, apart, zero)

  pub adds_made : (s : Made) (ty : Ty) (o : Op) (opds : List Opd) → Every (KnownAt s.next) opds → Adds s (made region ty o opds s) []
  adds_made s ty o opds h = record {
    new = new_inst s.next ty o opds ∷ [];
    are = refl;
    more = omega (arith);
    takes = λ known taken ready le tail follow.
        subst (λ b. TakesOf globals region lanes window b (is_id_in lanes (created region s.next)) known taken (new_inst s.next ty o opds)
        × Takes globals region lanes window (next_known globals region lanes b (new_inst s.next ty o opds) known) (next_taken globals region lanes window b (new_inst s.next ty o opds) taken) tail)
        (sym is) (
          (ready.free s.next (omega (arith)), every_map (KnownAt s.next) (Known globals known) (known_at known s.next ready) opds h),
          follow (λ y. one_of (created region s.next) y + known y) taken (ready_next known s.next ready) (λ y. omega (arith)),
        );
    keeps = λ y some other. absurd (omega (arith, some));
    kinds = (inl is, tt);
  }
    where
      is : is_created region (new_inst s.next ty o opds) ≡ true
      is = nat_same (suc region)

  -- ---- gathers

  pub record Gathers (s : Made) (g : Gathering) : Type 0 where
    pub adds : Adds s g.made_so_far []
    pub vector : KnownAt g.made_so_far.next g.vector
    pub same : g.made_so_far.vectors ≡ s.vectors

  one_more : (g : Gathering) (t : Ty) (at : ℕ) (o : Opd) → Gathering
  one_more g t at o = record { vector = Val (created region g.made_so_far.next); made_so_far = made region t op.Insert (g.vector ∷ o ∷ index_of at ∷ []) g.made_so_far }

  abbrev then_gathers : (s : Made) (g : Gathering) (t : Ty) (at : ℕ) (o : Opd) → Gathers s g → Known globals base o →
      Gathers s (record { vector = Val (created region g.made_so_far.next); made_so_far = made region t op.Insert (g.vector ∷ o ∷ index_of at ∷ []) g.made_so_far })
  then_gathers s g t at o h k = record {
    adds = adds_then s g.made_so_far (made region t op.Insert (g.vector ∷ o ∷ index_of at ∷ []) g.made_so_far) [] [] h.adds
        (adds_made g.made_so_far t op.Insert (g.vector ∷ o ∷ index_of at ∷ []) (h.vector, (base_at g.made_so_far.next o k, (tt, tt))));
    vector = inr (g.made_so_far.next, omega (arith), refl);
    same = h.same;
  }

  gathered_is : (s : Made) (t : Ty) (at : ℕ) (os : List Opd) (g : Gathering) → Every (Known globals base) os → Gathers s g → Gathers s (gathered region t at os g)
  gathered_is s t at [] g k h = h
  gathered_is s t at (Lit l ∷ os) g k h = gathered_is s t (suc at) os g k.1 h
  gathered_is s t at (Sym n ∷ os) g k h =
      gathered_is s t (suc at) os (record { vector = Val (created region g.made_so_far.next); made_so_far = made region t op.Insert (g.vector ∷ Sym n ∷ index_of at ∷ []) g.made_so_far }) k.1
      (then_gathers s g t at (Sym n) h k.0)
  gathered_is s t at (Val v ∷ os) g k h =
      gathered_is s t (suc at) os (record { vector = Val (created region g.made_so_far.next); made_so_far = made region t op.Insert (g.vector ∷ Val v ∷ index_of at ∷ []) g.made_so_far }) k.1
      (then_gathers s g t at (Val v) h k.0)

  gather_is : (m : Module) (os : List Opd) (s : Made) → Every (Known globals base) os → Gathers s (gather m region os s)
  gather_is m os s k =
      gathered_is s (row_of (length os) (first_ty m os)) 0 os (record { vector = literal_of (row_of (length os) (first_ty m os)) os; made_so_far = s }) k
      (record { adds = adds_none s; vector = tt; same = refl })

  -- ---- slots

  -- the vectors of nodes were created
  abbrev pub IsMade : ℕ → ℕ × Id → Type 0
  IsMade next v = (k : ℕ) × (k < next) × (v.1 ≡ created region k)

  abbrev pub AreMade : Made → Type 0
  AreMade s = Every (IsMade s.next) s.vectors

  later_made : (n m : ℕ) → n ≤ m → (vs : List (ℕ × Id)) → Every (IsMade n) vs → Every (IsMade m) vs
  later_made n m le vs h = every_map (IsMade n) (IsMade m) (λ v g. (g.0, (let l = g.1 in omega (arith, l, le)), g.2)) vs h

  vector_made : (n : ℕ) (vs : List (ℕ × Id)) (next : ℕ) → Every (IsMade next) vs → (v : Id) → vector_of n vs ≡ Some v → (k : ℕ) × (k < next) × (v ≡ created region k)
  vector_made n [] next h v e = absurd cc
  vector_made n (w ∷ vs) next h v e = by_test (nat_eq n w.0) e (vector_made n vs next h.1 v)
    where
      some_is : Some w.1 ≡ Some v → w.1 ≡ v
      some_is e = cc

      by_test : (b : Bool) → cond b (Some w.1) (vector_of n vs) ≡ Some v → (vector_of n vs ≡ Some v → (k : ℕ) × (k < next) × (v ≡ created region k)) → (k : ℕ) × (k < next) × (v ≡ created region k)
      by_test true r more = (h.0.0, h.0.1, sym (some_is r) ∙ h.0.2)
      by_test false r more = more r

  of_vector_known : (t : Ty) (n : ℕ) (s : Made) → AreMade s → (o : Option Id) → vector_of n s.vectors ≡ o → KnownAt s.next (of_vector t o)
  of_vector_known t n s h None e = tt
  of_vector_known t n s h (Some v) e = inr (vector_made n s.vectors s.next h v e)

  slot_by_is : (m : Module) (number : ℕ) (os : List Opd) (how : How) (s : Made) → Every (Known globals base) os → IdentKnown base how → AreMade s → Gathers s (slot_by m region number os how s)
  slot_by_is m number os Widen s k i v =
      record { adds = adds_none s; vector = of_vector_known (row_of (length os) (first_ty m os)) number s v (vector_of number s.vectors) refl; same = refl }
  slot_by_is m number os (Reuse n) s k i v =
      record { adds = adds_none s; vector = of_vector_known (row_of (length os) (first_ty m os)) n s v (vector_of n s.vectors) refl; same = refl }
  slot_by_is m number os (Ident x) s k i v = record { adds = adds_none s; vector = inl i; same = refl }
  slot_by_is m number os (Pack cause) s k i v = gather_is m os s k

  slot_is : (m : Module) (number : ℕ) (o : Option Node) (s : Made) → ((n : Node) → o ≡ Some n → NodeKnown globals base n) → AreMade s → Gathers s (slot_of m region number o s)
  slot_is m number None s k v = record { adds = adds_none s; vector = tt; same = refl }
  slot_is m number (Some n) s k v = let known = k n refl in slot_by_is m number n.lanes n.how s known.0 known.1 v

  pub record Slots (s : Made) (r : List Opd × Made) : Type 0 where
    pub adds : Adds s r.1 []
    pub vectors : Every (KnownAt r.1.next) r.0
    pub same : r.1.vectors ≡ s.vectors

  slots_are : (m : Module) (tree : List Node) → Every (NodeKnown globals base) tree → (ns : List ℕ) (s : Made) → AreMade s → Slots s (slots_in m region tree ns s)
  slots_are m tree k [] s v = record { adds = adds_none s; vectors = tt; same = refl }
  slots_are m tree k (n ∷ ns) s v =
      let here = slot_is m n (slice_get tree n) s (λ x e. every_get (NodeKnown globals base) tree n x k e) v in
      let made_now : AreMade (slot_of m region n (slice_get tree n) s).made_so_far =
      subst (Every (IsMade (slot_of m region n (slice_get tree n) s).made_so_far.next)) (sym here.same)
      (later_made s.next (slot_of m region n (slice_get tree n) s).made_so_far.next here.adds.more s.vectors v) in
      let rest = slots_are m tree k ns (slot_of m region n (slice_get tree n) s).made_so_far made_now in
      record {
        adds = adds_then s (slot_of m region n (slice_get tree n) s).made_so_far (slots_in m region tree ns (slot_of m region n (slice_get tree n) s).made_so_far).1 [] [] here.adds rest.adds;
        vectors = (
          later_at (slot_of m region n (slice_get tree n) s).made_so_far.next (slots_in m region tree ns (slot_of m region n (slice_get tree n) s).made_so_far).1.next rest.adds.more
              (slot_of m region n (slice_get tree n) s).vector here.vector,
          rest.vectors,
        );
        same = rest.same ∙ here.same;
      }

  -- ---- groups

  -- an instruction of the window that may move
  pub record Member (i : Inst) : Type 0 where
    pub finds : find i.id window ≡ Some i
    pub read : is_created region i ≡ false
    pub moves : Moves i
    pub known : Every (Known globals base) i.opds

  taken_next : (y : Id) (i : Inst) (is : List Inst) (taken : Id → ℕ) → taken y + times y (i ∷ is) ≤ 1 → one_of i.id y + taken y + times y is ≤ 1
  taken_next y i is taken le = omega (arith, le)

  own_taken : (i : Inst) (is : List Inst) (taken : Id → ℕ) → taken i.id + times i.id (i ∷ is) ≤ 1 → taken i.id ≡ 0
  own_taken i is taken le = let one = one_itself i.id in omega (arith, le, one)

  abbrev extract_of : Id → ℕ → Inst → Inst
  extract_of vector at i = record { id = i.id; name = i.name; ty = i.ty; op = op.Extract; opds = Val vector ∷ index_of at ∷ [] }

  module _ (wanted : Id → Bool) (vector : ℕ) where
    extracts_take : (at : ℕ) (is : List Inst) → Every Member is → Every (λ (i : Inst). is_id_in lanes i.id ≡ true) is → (n : ℕ) → vector < n → (known taken : Id → ℕ) → Ready known n →
        ((y : Id) → taken y + times y is ≤ 1) → (tail : List Inst) → MayFollow is taken n tail → Takes globals region lanes window known taken (extracts wanted (created region vector) at is ++ tail)
    extracts_take at [] h l n less known taken ready le tail follow = follow known taken ready (λ y. omega (arith))
    extracts_take at (i ∷ is) h l n less known taken ready le tail follow =
        by_wanted (wanted i.id) (λ u few g. extracts_take (suc at) is h.1 l.1 n less known u ready few tail g)
      where
        Rest : Type 0
        Rest = (u : Id → ℕ) → ((y : Id) → u y + times y is ≤ 1) → MayFollow is u n tail → Takes globals region lanes window known u (extracts wanted (created region vector) (suc at) is ++ tail)

        by_wanted : (b : Bool) → Rest →
            Takes globals region lanes window known taken
            (cond b (extract_of (created region vector) at i ∷ extracts wanted (created region vector) (suc at) is) (extracts wanted (created region vector) (suc at) is) ++ tail)
        by_wanted false more = more taken (λ y. let e = le y in omega (arith, e)) (λ k u r few. follow k u r (λ y. let f = few y in omega (arith, f)))
        by_wanted true more =
            subst (λ b. TakesOf globals region lanes window b (is_id_in lanes i.id) known taken (extract_of (created region vector) at i)
            × Takes globals region lanes window (next_known globals region lanes b (extract_of (created region vector) at i) known)
            (next_taken globals region lanes window b (extract_of (created region vector) at i) taken) (extracts wanted (created region vector) (suc at) is ++ tail))
            (sym h.0.read)
            (subst (λ b. TakesOf globals region lanes window false b known taken (extract_of (created region vector) at i)
            × Takes globals region lanes window known (λ y. one_of i.id y + taken y) (extracts wanted (created region vector) (suc at) is ++ tail))
            (sym l.0) (
              (own_taken i is taken (le i.id), (i, h.0.finds, (refl, (ready.are vector less, (tt, tt)), (refl, refl)))),
              more (λ y. one_of i.id y + taken y) (λ y. let e = le y in omega (arith, e)) (λ k u r few. follow k u r (λ y. let f = few y in omega (arith, f))),
            ))

    extracts_kinds : (at : ℕ) (is : List Inst) → Every (λ (i : Inst). is_id_in lanes i.id ≡ true) is → Every Kind (extracts wanted (created region vector) at is)
    extracts_kinds at [] l = tt
    extracts_kinds at (i ∷ is) l = by_wanted (wanted i.id) (extracts_kinds (suc at) is l.1)
      where
        by_wanted : (b : Bool) → Every Kind (extracts wanted (created region vector) (suc at) is) →
            Every Kind (cond b (extract_of (created region vector) at i ∷ extracts wanted (created region vector) (suc at) is) (extracts wanted (created region vector) (suc at) is))
        by_wanted false rest = rest
        by_wanted true rest = (inr (inl (l.0, (vector, record { ty = Rattle.ir_types.specs.declared.ty.Ty.TheVariants.Int 64; lanes = Some at ∷ [] }, refl))), rest)

  -- no lane is kept
  no_keeps : (is : List Inst) → Every (λ (i : Inst). is_id_in lanes i.id ≡ true) is → (y : Id) → 1 ≤ times y is → is_id_in lanes y ≡ false → ⊥
  no_keeps [] l y some other = omega (arith, some)
  no_keeps (i ∷ is) l y some other = by_test (same_id i.id y) refl (no_keeps is l.1 y)
    where
      true_false : true ≡ false → ⊥
      true_false e = cc

      by_test : (b : Bool) → same_id i.id y ≡ b → (1 ≤ times y is → is_id_in lanes y ≡ false → ⊥) → ⊥
      by_test true t more = true_false (sym l.0 ∙ (ap (is_id_in lanes) (same_is i.id y t) ∙ other))
      by_test false t more =
          let none : one_of i.id y ≡ 0 = ap (λ b. cond b 1 0) t in
          more (omega (arith, some, none)) other

  pub adds_extracts : (wanted : Id → Bool) (vector at : ℕ) (is : List Inst) (s : Made) → vector < s.next → Every Member is → Every (λ (i : Inst). is_id_in lanes i.id ≡ true) is →
      Adds s (with_insts (extracts wanted (created region vector) at is) s) is
  adds_extracts wanted vector at is s less h l = record {
    new = extracts wanted (created region vector) at is;
    are = refl;
    more = omega (arith);
    takes = λ known taken ready le tail follow. extracts_take wanted vector at is h l s.next less known taken ready le tail follow;
    keeps = λ y some other. absurd (no_keeps is l y some other);
    kinds = extracts_kinds wanted vector at is l;
  }

  -- what is kept
  kept_take : (is : List Inst) → Every Member is → Every (λ (i : Inst). is_id_in lanes i.id ≡ false) is → (n : ℕ) (known taken : Id → ℕ) → Ready known n →
      ((y : Id) → taken y + times y is ≤ 1) → (tail : List Inst) → MayFollow is taken n tail → Takes globals region lanes window known taken (is ++ tail)
  kept_take [] h l n known taken ready le tail follow = follow known taken ready (λ y. omega (arith))
  kept_take (i ∷ is) h l n known taken ready le tail follow =
      subst (λ b. TakesOf globals region lanes window b (is_id_in lanes i.id) known taken i
      × Takes globals region lanes window (next_known globals region lanes b i known) (next_taken globals region lanes window b i taken) (is ++ tail))
      (sym h.0.read)
      (subst (λ b. TakesOf globals region lanes window false b known taken i × Takes globals region lanes window known (λ y. one_of i.id y + taken y) (is ++ tail)) (sym l.0) (
        (own_taken i is taken (le i.id), (i, h.0.finds, (refl, h.0.moves))),
        kept_take is h.1 l.1 n known (λ y. one_of i.id y + taken y) ready (λ y. let e = le y in omega (arith, e)) tail
            (λ k u r few. follow k u r (λ y. let f = few y in omega (arith, f))),
      ))

  kept_kinds : (is : List Inst) → Every Member is → Every (λ (i : Inst). is_id_in lanes i.id ≡ false) is → Every Kind is
  kept_kinds [] h l = tt
  kept_kinds (i ∷ is) h l = (inr (inr (h.0.finds, l.0)), kept_kinds is h.1 l.1)

  pub adds_kept : (is : List Inst) (s : Made) → Every Member is → Every (λ (i : Inst). is_id_in lanes i.id ≡ false) is → Adds s (with_insts is s) is
  adds_kept is s h l = record {
    new = is;
    are = refl;
    more = omega (arith);
    takes = λ known taken ready le tail follow. kept_take is h l s.next known taken ready le tail follow;
    keeps = λ y some other. some;
    kinds = kept_kinds is h l;
  }

  -- ---- a widened bundle

  -- what is written of members of the window, with the vectors of the nodes so far
  pub record Writes (s t : Made) (members : List Inst) : Type 0 where
    pub adds : Adds s t members
    pub vectors : AreMade t

  pointer_known : (n : ℕ) (o : Op) (os : List Opd) → Every (Known globals base) os → Every (KnownAt n) (pointer_of o os)
  pointer_known n (op.Load align) os h = every_map (Known globals base) (KnownAt n) (base_at n) os h
  pointer_known n (op.Store align) [] h = tt
  pointer_known n (op.Store align) (o ∷ os) h = every_map (Known globals base) (KnownAt n) (base_at n) os h.1
  pointer_known n (op.Bin o flags) os h = tt
  pointer_known n (op.Icmp pred) os h = tt
  pointer_known n (op.Cast o nneg) os h = tt
  pointer_known n op.Select os h = tt
  pointer_known n op.Extract os h = tt
  pointer_known n op.Insert os h = tt
  pointer_known n (op.Shuffle mask) os h = tt
  pointer_known n (op.Gep elem inbounds) os h = tt
  pointer_known n (op.Alloca elem align) os h = tt
  pointer_known n (op.Phi blocks) os h = tt
  pointer_known n op.Ret os h = tt
  pointer_known n (op.Br to) os h = tt
  pointer_known n (op.CondBr first second) os h = tt
  pointer_known n (op.Switch other cases to) os h = tt
  pointer_known n op.Unreachable os h = tt
  pointer_known n (op.Call site) os h = tt

  -- ---- kinds of groups

  -- a group of lanes begins with the first of a node; of any other none is a lane
  abbrev pub GroupKind : List Node → Inst → List Inst → Type 0
  GroupKind tree i is =
      ((bundle_of i.id 0 tree ≡ None) × Every (λ (j : Inst). is_id_in lanes j.id ≡ false) (i ∷ is))
      ⊎ ((b : ℕ × List ℕ) × (bundle_of i.id 0 tree ≡ Some b) × Every (λ (j : Inst). is_id_in lanes j.id ≡ true) (i ∷ is))

  abbrev pub IsGroup : List Node → List Inst → Type 0
  IsGroup tree [] = ⊤
  IsGroup tree (i ∷ is) = Every Member (i ∷ is) × GroupKind tree i is

  module _ (m : Module) (wanted : Id → Bool) (tree : List Node) (known : Every (NodeKnown globals base) tree) where
    widened_is : (number : ℕ) (i : Inst) (is : List Inst) (s : Made) (r : List Opd × Made) → Slots s r → AreMade s → Every Member (i ∷ is) →
        Every (λ (j : Inst). is_id_in lanes j.id ≡ true) (i ∷ is) → Writes s (widened_by wanted region number i is r) (i ∷ is)
    widened_is number i is s r sl v h l = record {
      adds = adds_then s r.1 last [] (i ∷ is) sl.adds
          (adds_then r.1 vector last [] (i ∷ is) (adds_made r.1 (row_of (suc (length is)) (Some i.ty)) (common_op i.op is) (r.0 ++ pointer_of i.op i.opds) operands)
          (adds_then vector noted last [] (i ∷ is) (adds_same vector noted refl refl)
          (adds_extracts wanted r.1.next 0 (i ∷ is) noted (omega (arith)) h l)));
      vectors = ((r.1.next, omega (arith), refl), later_made r.1.next (suc r.1.next) (omega (arith)) r.1.vectors were);
    }
      where
        vector : Made
        vector = made region (row_of (suc (length is)) (Some i.ty)) (common_op i.op is) (r.0 ++ pointer_of i.op i.opds) r.1

        noted : Made
        noted = with_vector number (created region r.1.next) vector

        last : Made
        last = with_insts (extracts wanted (created region r.1.next) 0 (i ∷ is)) noted

        operands : Every (KnownAt r.1.next) (r.0 ++ pointer_of i.op i.opds)
        operands = every_append (KnownAt r.1.next) r.0 (pointer_of i.op i.opds) sl.vectors (pointer_known r.1.next i.op i.opds h.0.known)

        were : Every (IsMade r.1.next) r.1.vectors
        were = subst (Every (IsMade r.1.next)) (sym sl.same) (later_made s.next r.1.next sl.adds.more s.vectors v)

    -- ---- a group, and all groups

    group_is : (g : List Inst) → IsGroup tree g → (s : Made) → AreMade s → Writes s (group_in m wanted region tree g s) g
    group_is [] h s v = record { adds = adds_none s; vectors = v }
    group_is (i ∷ is) h s v = by_kind h.1
      where
        by_kind : GroupKind tree i is → Writes s (group_by m wanted region tree (i ∷ is) (bundle_of i.id 0 tree) s) (i ∷ is)
        by_kind (inl k) =
            subst (λ o. Writes s (group_by m wanted region tree (i ∷ is) o s) (i ∷ is)) (sym k.0) (record { adds = adds_kept (i ∷ is) s h.0 k.1; vectors = v })
        by_kind (inr k) =
            subst (λ o. Writes s (group_by m wanted region tree (i ∷ is) o s) (i ∷ is)) (sym k.1)
            (widened_is k.0.0 i is s (slots_in m region tree k.0.1 s) (slots_are m tree known k.0.1 s v) v h.0 k.2)

    pub written_is : (groups : List (List Inst)) → Every (IsGroup tree) groups → (s : Made) → AreMade s → Writes s (written m wanted region tree groups s) (joined groups)
    written_is [] h s v = record { adds = adds_none s; vectors = v }
    written_is (g ∷ gs) h s v =
        let here = group_is g h.0 s v in
        let rest = written_is gs h.1 (group_in m wanted region tree g s) here.vectors in
        record { adds = adds_then s (group_in m wanted region tree g s) (written m wanted region tree gs (group_in m wanted region tree g s)) g (joined gs) here.adds rest.adds; vectors = rest.vectors }

    -- ---- what is wanted is written

    extracts_have : (v : Id) (at : ℕ) (is : List Inst) (y : Id) → 1 ≤ times y is → wanted y ≡ true → 1 ≤ times y (extracts wanted v at is)
    extracts_have v at [] y some w = absurd (omega (arith, some))
    extracts_have v at (i ∷ is) y some w = by_own (same_id i.id y) refl (extracts_have v (suc at) is y)
      where
        by_own : (b : Bool) → same_id i.id y ≡ b → (1 ≤ times y is → wanted y ≡ true → 1 ≤ times y (extracts wanted v (suc at) is)) →
            1 ≤ times y (cond (wanted i.id) (extract_of v at i ∷ extracts wanted v (suc at) is) (extracts wanted v (suc at) is))
        by_own true t more =
            let one : one_of i.id y ≡ 1 = ap (λ b. cond b 1 0) t in
            let here : times y (cond (wanted i.id) (extract_of v at i ∷ extracts wanted v (suc at) is) (extracts wanted v (suc at) is)) ≡ one_of i.id y + times y (extracts wanted v (suc at) is) =
            ap (λ b. times y (cond b (extract_of v at i ∷ extracts wanted v (suc at) is) (extracts wanted v (suc at) is))) (ap wanted (same_is i.id y t) ∙ w) in
            omega (arith, one, here)
        by_own false t more = by_wanted (wanted i.id) (more (let none : one_of i.id y ≡ 0 = ap (λ b. cond b 1 0) t in omega (arith, some, none)) w)
          where
            by_wanted : (b : Bool) → 1 ≤ times y (extracts wanted v (suc at) is) → 1 ≤ times y (cond b (extract_of v at i ∷ extracts wanted v (suc at) is) (extracts wanted v (suc at) is))
            by_wanted true some = omega (arith, some)
            by_wanted false some = some

    none_lane : (is : List Inst) → Every (λ (i : Inst). is_id_in lanes i.id ≡ false) is → (y : Id) → 1 ≤ times y is → is_id_in lanes y ≡ true → ⊥
    none_lane [] l y some lane = omega (arith, some)
    none_lane (i ∷ is) l y some lane = by_test (same_id i.id y) refl (none_lane is l.1 y)
      where
        true_false : true ≡ false → ⊥
        true_false e = cc

        by_test : (b : Bool) → same_id i.id y ≡ b → (1 ≤ times y is → is_id_in lanes y ≡ true → ⊥) → ⊥
        by_test true t more = true_false (sym lane ∙ (ap (is_id_in lanes) (sym (same_is i.id y t)) ∙ l.0))
        by_test false t more = let none : one_of i.id y ≡ 0 = ap (λ b. cond b 1 0) t in more (omega (arith, some, none)) lane

    group_wants : (g : List Inst) → IsGroup tree g → (s : Made) → (y : Id) → 1 ≤ times y g → is_id_in lanes y ≡ true → wanted y ≡ true → 1 ≤ times y (group_in m wanted region tree g s).insts
    group_wants [] h s y some lane w = absurd (omega (arith, some))
    group_wants (i ∷ is) h s y some lane w = by_kind h.1
      where
        by_kind : GroupKind tree i is → 1 ≤ times y (group_by m wanted region tree (i ∷ is) (bundle_of i.id 0 tree) s).insts
        by_kind (inl k) = elim (none_lane (i ∷ is) k.1 y some lane) [ ]
        by_kind (inr k) =
            subst (λ o. 1 ≤ times y (group_by m wanted region tree (i ∷ is) o s).insts) (sym k.1) (
            let last : List Inst = vector.insts in
            let all = times_append y vector.insts (extracts wanted (created region r.1.next) 0 (i ∷ is)) in
            let have = extracts_have (created region r.1.next) 0 (i ∷ is) y some w in
            omega (arith, all, have))
          where
            r : List Opd × Made
            r = slots_in m region tree k.0.1 s

            vector : Made
            vector = made region (row_of (suc (length is)) (Some i.ty)) (common_op i.op is) (r.0 ++ pointer_of i.op i.opds) r.1

    pub written_wants : (groups : List (List Inst)) → Every (IsGroup tree) groups → (s : Made) → AreMade s → (y : Id) → is_id_in lanes y ≡ true → wanted y ≡ true →
        1 ≤ times y s.insts + times y (joined groups) → 1 ≤ times y (written m wanted region tree groups s).insts
    written_wants [] h s v y lane w some = omega (arith, some)
    written_wants (g ∷ gs) h s v y lane w some =
        let here = group_is g h.0 s v in
        written_wants gs h.1 (group_in m wanted region tree g s) here.vectors y lane w (enough here.adds.new here.adds.are)
      where
        enough : (new : List Inst) → (group_in m wanted region tree g s).insts ≡ s.insts ++ new → 1 ≤ times y (group_in m wanted region tree g s).insts + times y (joined gs)
        enough new e = by_number (times y g) refl
          where
            by_number : (n : ℕ) → times y g ≡ n → 1 ≤ times y (group_in m wanted region tree g s).insts + times y (joined gs)
            by_number zero z =
                let all = times_append y g (joined gs) in
                let grown = ap (times y) e in
                let sum = times_append y s.insts new in
                omega (arith, some, z, all, grown, sum)
            by_number (suc n) z = let have = group_wants g h.0 s y (omega (arith, z)) lane w in omega (arith, have)
