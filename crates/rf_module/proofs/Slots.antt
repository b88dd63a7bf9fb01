-- The vectors of the slots of a bundle: each is known with its type where the vector instruction stands.
use Rattle.std.proofs.Common.{◌≡◌, refl, sym, ap, ◌∙◌, subst, ℕ, suc, ◌≤◌, true, Option, None, Some, List, [], ◌∷◌, ◌++◌, map, slice_get, arith, length, append_assoc}
use Rattle.std.specs.Bool.{⊤}
use Rattle.ir_types.specs.declared.id.Id.{Id}
use Rattle.ir_types.specs.declared.ty.Ty.{Ty}
use Rattle.ir_types.specs.declared.ty.Ty.TheVariants.{Int, Row}
use Rattle.ir_types.specs.declared.opd.Opd.{Opd}
use Rattle.ir_types.specs.declared.opd.Opd.TheVariants.{Val, Lit, Sym}
use Rattle.ir_types.specs.declared.inst.Inst.{Inst}
use Rattle.ir_types.specs.declared.func.Func.{Func}
use Rattle.ir_types.specs.declared.module.Module.{Module}
use Rattle.ir_types.specs.Typed.{is_vector, is_scalar, lane_width}
use Rattle.ir_types.specs.Formed.{IsOpd, IsPoisonIfPointer}
use Rattle.ir_types.proofs.Formed.{Every, every_of_all}
use Rattle.vx_num.specs.Width.{IsLane}
use Rattle.vx_serial.specs.declared.node.How.{How}
use Rattle.vx_serial.specs.declared.node.How.TheVariants.{Widen, Reuse, Ident, Pack}
use Rattle.vx_serial.specs.declared.node.Node.{Node}
use Rattle.vx_serial.specs.Rewriting.{Made, Gathering, created, gathered, gather, lane_of, written_lane, row_of, first_ty, literal_of, vector_of, of_vector, slot_by, slot_of, slots_in, only_created, uses_value}
use Rattle.rf_module.proofs.Lines.{Known, after, after_append, ty_by}
use Rattle.rf_module.proofs.Exchanged.{all_of_every}
use Rattle.rf_module.proofs.Forms.{vector_tys}
use Rattle.rf_module.proofs.Steps.{AllNew, new_keeps, Step, step_none, step_then, Free, ReadyIf, Gathered, gathered_typed}

append_none : {A : Type 0} (xs : List A) → xs ≡ xs ++ []
append_none [] = refl
append_none (x ∷ xs) = ap (λ u. x ∷ u) (append_none xs)

length_map : {A B : Type 0} (f : A → B) (xs : List A) → length (map f xs) ≡ length xs
length_map f [] = refl
length_map f (x ∷ xs) = ap suc (length_map f xs)

module _ (m : Module) (f : Func) (number region : ℕ) (new : List Inst) (n : ℕ) (small : n ≤ 16) (tree : List Node) where
  -- what stays known has the type that it had
  ty_kept : (known : Known) (is : List Inst) → AllNew known is → (o : Opd) (t : Ty) → ty_by m f number known o ≡ Some t → ty_by m f number (after is known) o ≡ Some t
  ty_kept known is fresh (Val y) t e = new_keeps is known fresh y t e
  ty_kept known is fresh (Lit l) t e = e
  ty_kept known is fresh (Sym g) t e = e

  -- how the vector of a slot is had, of lanes that are integers of a width
  module _ (w : ℕ) (row : is_vector (Row n w) ≡ true) (scalar : is_scalar (Int w) ≡ true) where
    abbrev pub SlotReady : Known → List (ℕ × Id) → ℕ → List Opd → How → Type 0
    SlotReady known vectors p lanes Widen = (v : Id) × (vector_of p vectors ≡ Some v) × (known v ≡ Some (Row n w))
    SlotReady known vectors p lanes (Reuse r) = (v : Id) × (vector_of r vectors ≡ Some v) × (known v ≡ Some (Row n w))
    SlotReady known vectors p lanes (Ident v) = known v ≡ Some (Row n w)
    SlotReady known vectors p lanes (Pack cause) = Every (ReadyIf m f number region new n w row scalar small known) lanes × (length lanes ≡ n) × (first_ty m lanes ≡ Some (Int w))

    ready_kept : (known : Known) (is : List Inst) → AllNew known is → (os : List Opd) → Every (ReadyIf m f number region new n w row scalar small known) os →
        Every (ReadyIf m f number region new n w row scalar small (after is known)) os
    ready_kept known is fresh [] h = tt
    ready_kept known is fresh (Val y ∷ os) h = ((λ u. new_keeps is known fresh y (Int w) (h.0 u)), ready_kept known is fresh os h.1)
    ready_kept known is fresh (Lit l ∷ os) h = (h.0, ready_kept known is fresh os h.1)
    ready_kept known is fresh (Sym g ∷ os) h = elim h.0 [ ]

    slot_kept : (known : Known) (is : List Inst) → AllNew known is → (vectors : List (ℕ × Id)) (p : ℕ) (lanes : List Opd) (how : How) → SlotReady known vectors p lanes how → SlotReady (after is known) vectors p lanes how
    slot_kept known is fresh vectors p lanes Widen h = (h.0, h.1, new_keeps is known fresh h.0 (Row n w) h.2)
    slot_kept known is fresh vectors p lanes (Reuse r) h = (h.0, h.1, new_keeps is known fresh h.0 (Row n w) h.2)
    slot_kept known is fresh vectors p lanes (Ident v) h = new_keeps is known fresh v (Row n w) h
    slot_kept known is fresh vectors p lanes (Pack cause) h = (ready_kept known is fresh lanes h.0, h.1, h.2)

    -- the literal with which a gather begins
    lanes_written : (known : Known) (os : List Opd) → Every (ReadyIf m f number region new n w row scalar small known) os → Every (λ lane. IsLane w lane) (map written_lane os)
    lanes_written known [] h = tt
    lanes_written known (Val y ∷ os) h = (tt, lanes_written known os h.1)
    lanes_written known (Sym g ∷ os) h = elim h.0 [ ]
    lanes_written known (Lit l ∷ os) h = (one l.lanes (every_of_all (λ lane. IsLane (lane_width l.ty) lane) l.lanes h.0.1.2), lanes_written known os h.1)
      where
        one : (ls : List (Option ℕ)) → Every (λ lane. IsLane (lane_width l.ty) lane) ls → IsLane w (lane_of ls)
        one [] g = tt
        one (a ∷ ls) g = subst (λ v. IsLane v a) (ap lane_width h.0.0) g.0

    abbrev begun : List Opd → Made → Gathering
    begun lanes s = record { vector = literal_of (Row n w) lanes; made_so_far = s }

    none_more : (known : Known) (s : Made) (v : Opd) → ty_by m f number known v ≡ Some (Row n w) → IsOpd v → IsPoisonIfPointer v → Free m f number region known s.next →
        Gathered m f number region new n w row scalar small known (record { vector = v; made_so_far = s }) (record { vector = v; made_so_far = s })
    none_more known s v t o p free = record { more = []; are = append_none s.insts; step = step_none m f number region known; vector = t; operand = o; poison = p; free = free; vectors = refl }

    module _ (final : Made) (within : (y : Id) → uses_value y (only_created region final.insts) ≡ true → uses_value y new ≡ true) where
      -- from a state to the vector of a slot
      pub record Slotted (known : Known) (s : Made) (g : Gathering) : Type 0 where
        pub more : List Inst
        pub are : g.made_so_far.insts ≡ s.insts ++ more
        pub step : Step m f number region known more
        pub vector : ty_by m f number (after more known) g.vector ≡ Some (Row n w)
        pub operand : IsOpd g.vector
        pub poison : IsPoisonIfPointer g.vector
        pub free : Free m f number region (after more known) g.made_so_far.next
        pub vectors : g.made_so_far.vectors ≡ s.vectors

      slotted_of : (known : Known) (s : Made) (v : Opd) (g : Gathering) → Gathered m f number region new n w row scalar small known (record { vector = v; made_so_far = s }) g → Slotted known s g
      slotted_of known s v g h = record { more = h.more; are = h.are; step = h.step; vector = h.vector; operand = h.operand; poison = h.poison; free = h.free; vectors = h.vectors }

      plain_slot : (known : Known) (s : Made) (v : Id) → known v ≡ Some (Row n w) → Free m f number region known s.next → Slotted known s (record { vector = Val v; made_so_far = s })
      plain_slot known s v e free = slotted_of known s (Val v) (record { vector = Val v; made_so_far = s }) (none_more known s (Val v) e tt tt free)

      slot_typed : (known : Known) (s : Made) (p : ℕ) (lanes : List Opd) (how : How) → SlotReady known s.vectors p lanes how → Free m f number region known s.next →
          (rest : List Inst) → final.insts ≡ (slot_by m region p lanes how s).made_so_far.insts ++ rest → Slotted known s (slot_by m region p lanes how s)
      slot_typed known s p lanes Widen h free rest e =
          subst (λ o. Slotted known s (record { vector = of_vector (row_of (length lanes) (first_ty m lanes)) o; made_so_far = s })) (sym h.1) (plain_slot known s h.0 h.2 free)
      slot_typed known s p lanes (Reuse r) h free rest e =
          subst (λ o. Slotted known s (record { vector = of_vector (row_of (length lanes) (first_ty m lanes)) o; made_so_far = s })) (sym h.1) (plain_slot known s h.0 h.2 free)
      slot_typed known s p lanes (Ident v) h free rest e = plain_slot known s v h free
      slot_typed known s p lanes (Pack cause) h free rest e =
          subst (λ t. Slotted known s (gathered region t 0 lanes (record { vector = literal_of t lanes; made_so_far = s }))) (sym same)
          (slotted_of known s (literal_of (Row n w) lanes) (gathered region (Row n w) 0 lanes (begun lanes s))
          (gathered_typed m f number region new n w row scalar small final within known 0 lanes (begun lanes s) (let long = h.1 in let le = small in omega (arith, long, le)) h.0 refl literal (λ r. absurd cc) free rest
          (e ∙ ap (λ t. (gathered region t 0 lanes (record { vector = literal_of t lanes; made_so_far = s })).made_so_far.insts ++ rest) same)))
        where
          same : row_of (length lanes) (first_ty m lanes) ≡ Row n w
          same = ap (row_of (length lanes)) h.2 ∙ ap (λ k. Row k w) h.1

          literal : IsOpd (literal_of (Row n w) lanes)
          literal = (row, length_map written_lane lanes ∙ h.1, all_of_every (λ lane. IsLane w lane) (map written_lane lanes) (lanes_written known lanes h.0))

  -- ---- slots one after another

  abbrev pub Rows : List ℕ → Type 0
  Rows [] = ⊤
  Rows (w ∷ ws) = ((is_vector (Row n w) ≡ true) × (is_scalar (Int w) ≡ true)) × Rows ws

  abbrev pub SlotsReady : Known → List (ℕ × Id) → List ℕ → (ws : List ℕ) → Rows ws → Type 0
  SlotsReady known vectors [] [] rows = ⊤
  SlotsReady known vectors (p ∷ ps) (w ∷ ws) rows =
      ((k : Node) × (slice_get tree p ≡ Some k) × SlotReady w rows.0.0 rows.0.1 known vectors p k.lanes k.how) × SlotsReady known vectors ps ws rows.1
  SlotsReady known vectors _ _ rows = ⊥

  slots_kept : (known : Known) (is : List Inst) → AllNew known is → (vectors : List (ℕ × Id)) (ps ws : List ℕ) (rows : Rows ws) → SlotsReady known vectors ps ws rows → SlotsReady (after is known) vectors ps ws rows
  slots_kept known is fresh vectors [] [] rows h = tt
  slots_kept known is fresh vectors (p ∷ ps) (w ∷ ws) rows h =
      ((h.0.0, h.0.1, slot_kept w rows.0.0 rows.0.1 known is fresh vectors p h.0.0.lanes h.0.0.how h.0.2), slots_kept known is fresh vectors ps ws rows.1 h.1)
  slots_kept known is fresh vectors [] (w ∷ ws) rows h = elim h [ ]
  slots_kept known is fresh vectors (p ∷ ps) [] rows h = elim h [ ]

  pub record AllSlotted (known : Known) (s : Made) (ws : List ℕ) (r : List Opd × Made) : Type 0 where
    pub more : List Inst
    pub are : r.1.insts ≡ s.insts ++ more
    pub step : Step m f number region known more
    pub tys : map (ty_by m f number (after more known)) r.0 ≡ vector_tys n ws
    pub operands : Every IsOpd r.0
    pub poison : Every IsPoisonIfPointer r.0
    pub free : Free m f number region (after more known) r.1.next
    pub vectors : r.1.vectors ≡ s.vectors

  module _ (final : Made) (within : (y : Id) → uses_value y (only_created region final.insts) ≡ true → uses_value y new ≡ true) where
    pub slots_typed : (known : Known) (s : Made) (ps ws : List ℕ) (rows : Rows ws) → SlotsReady known s.vectors ps ws rows → Free m f number region known s.next →
        (rest : List Inst) → final.insts ≡ (slots_in m region tree ps s).1.insts ++ rest → AllSlotted known s ws (slots_in m region tree ps s)
    slots_typed known s [] [] rows h free rest e = record { more = []; are = append_none s.insts; step = step_none m f number region known; tys = refl; operands = tt; poison = tt; free = free; vectors = refl }
    slots_typed known s [] (w ∷ ws) rows h free rest e = elim h [ ]
    slots_typed known s (p ∷ ps) [] rows h free rest e = elim h [ ]
    slots_typed known s (p ∷ ps) (w ∷ ws) rows h free rest e =
        subst (λ o. AllSlotted known s (w ∷ ws) (Rattle.vx_serial.specs.Rewriting.with_slot (slot_of m region p o s).vector (slots_in m region tree ps (slot_of m region p o s).made_so_far))) (sym h.0.1)
        (joined (slots_typed (after here.more known) now ps ws rows.1
        (subst (λ vs. SlotsReady (after here.more known) vs ps ws rows.1) (sym here.vectors) (slots_kept known here.more here.step.fresh s.vectors ps ws rows.1 h.1)) here.free rest
        (e ∙ ap (λ o. (slots_in m region tree ps (slot_of m region p o s).made_so_far).1.insts ++ rest) h.0.1)))
      where
        k : Node
        k = h.0.0

        now : Made
        now = (slot_by m region p h.0.0.lanes h.0.0.how s).made_so_far

        -- what the later slots write stands after what this one writes
        prefix : (qs : List ℕ) (t : Made) → (more : List Inst) × ((slots_in m region tree qs t).1.insts ≡ t.insts ++ more)
        prefix [] t = ([], append_none t.insts)
        prefix (q ∷ qs) t =
            let one = slot_prefix q (slice_get tree q) t in
            let more = prefix qs (slot_of m region q (slice_get tree q) t).made_so_far in
            (one.0 ++ more.0, more.1 ∙ ap (λ is. is ++ more.0) one.1 ∙ append_assoc t.insts one.0 more.0)
          where
            gathered_prefix : (ty : Ty) (at : ℕ) (os : List Opd) (g : Gathering) → (more : List Inst) × ((gathered region ty at os g).made_so_far.insts ≡ g.made_so_far.insts ++ more)
            gathered_prefix ty at [] g = ([], append_none g.made_so_far.insts)
            gathered_prefix ty at (Lit l ∷ os) g = gathered_prefix ty (suc at) os g
            gathered_prefix ty at (Sym a ∷ os) g =
                let r = gathered_prefix ty (suc at) os (record {
                  vector = Val (created region g.made_so_far.next);
                  made_so_far = Rattle.vx_serial.specs.Rewriting.made region ty Rattle.ir_types.specs.declared.op.Op.TheVariants.Insert (g.vector ∷ Sym a ∷ Rattle.vx_serial.specs.Rewriting.index_of at ∷ []) g.made_so_far;
                }) in
                (_, r.1 ∙ append_assoc g.made_so_far.insts _ r.0)
            gathered_prefix ty at (Val a ∷ os) g =
                let r = gathered_prefix ty (suc at) os (record {
                  vector = Val (created region g.made_so_far.next);
                  made_so_far = Rattle.vx_serial.specs.Rewriting.made region ty Rattle.ir_types.specs.declared.op.Op.TheVariants.Insert (g.vector ∷ Val a ∷ Rattle.vx_serial.specs.Rewriting.index_of at ∷ []) g.made_so_far;
                }) in
                (_, r.1 ∙ append_assoc g.made_so_far.insts _ r.0)

            by_prefix : (q : ℕ) (lanes : List Opd) (how : How) (t : Made) → (more : List Inst) × ((slot_by m region q lanes how t).made_so_far.insts ≡ t.insts ++ more)
            by_prefix q lanes Widen t = ([], append_none t.insts)
            by_prefix q lanes (Reuse r) t = ([], append_none t.insts)
            by_prefix q lanes (Ident v) t = ([], append_none t.insts)
            by_prefix q lanes (Pack cause) t = gathered_prefix (row_of (length lanes) (first_ty m lanes)) 0 lanes (record { vector = literal_of (row_of (length lanes) (first_ty m lanes)) lanes; made_so_far = t })

            slot_prefix : (q : ℕ) (o : Option Node) (t : Made) → (more : List Inst) × ((slot_of m region q o t).made_so_far.insts ≡ t.insts ++ more)
            slot_prefix q None t = ([], append_none t.insts)
            slot_prefix q (Some x) t = by_prefix q x.lanes x.how t

        here : Slotted w rows.0.0 rows.0.1 final within known s (slot_by m region p h.0.0.lanes h.0.0.how s)
        here =
            let later = prefix ps now in
            slot_typed w rows.0.0 rows.0.1 final within known s p h.0.0.lanes h.0.0.how h.0.2 free (later.0 ++ rest)
            (e ∙ ap (λ o. (slots_in m region tree ps (slot_of m region p o s).made_so_far).1.insts ++ rest) h.0.1 ∙ ap (λ is. is ++ rest) later.1 ∙ append_assoc now.insts later.0 rest)

        joined : AllSlotted (after here.more known) now ws (slots_in m region tree ps now) →
            AllSlotted known s (w ∷ ws) (Rattle.vx_serial.specs.Rewriting.with_slot (slot_by m region p h.0.0.lanes h.0.0.how s).vector (slots_in m region tree ps now))
        joined r = record {
          more = here.more ++ r.more;
          are = r.are ∙ ap (λ is. is ++ r.more) here.are ∙ append_assoc s.insts here.more r.more;
          step = step_then m f number region known here.more r.more here.step r.step;
          tys =
              ap (λ t. t ∷ map (ty_by m f number (after (here.more ++ r.more) known)) (slots_in m region tree ps now).0)
              (ty_append (slot_by m region p h.0.0.lanes h.0.0.how s).vector ∙ ty_kept (after here.more known) r.more r.step.fresh (slot_by m region p h.0.0.lanes h.0.0.how s).vector (Row n w) here.vector)
              ∙ ap (λ ts. Some (Row n w) ∷ ts) (tys_same (slots_in m region tree ps now).0 ∙ r.tys);
          operands = (here.operand, r.operands);
          poison = (here.poison, r.poison);
          free = λ j le. after_append here.more r.more known (created region j) ∙ r.free j le;
          vectors = r.vectors ∙ here.vectors;
        }
          where
            ty_append : (o : Opd) → ty_by m f number (after (here.more ++ r.more) known) o ≡ ty_by m f number (after r.more (after here.more known)) o
            ty_append (Val y) = after_append here.more r.more known y
            ty_append (Lit l) = refl
            ty_append (Sym g) = refl

            tys_same : (os : List Opd) → map (ty_by m f number (after (here.more ++ r.more) known)) os ≡ map (ty_by m f number (after r.more (after here.more known))) os
            tys_same [] = refl
            tys_same (Val y ∷ os) = ap (λ t. t ∷ map (ty_by m f number (after (here.more ++ r.more) known)) os) (after_append here.more r.more known y) ∙ ap (λ ts. after r.more (after here.more known) y ∷ ts) (tys_same os)
            tys_same (Lit l ∷ os) = ap (λ ts. Some l.ty ∷ ts) (tys_same os)
            tys_same (Sym g ∷ os) = ap (λ ts. ty_by m f number known (Sym g) ∷ ts) (tys_same os)
