-- What goes from a block and the order in which it is removed, told on lists, with no module changed in between.
--
-- Ids go in turn where each goes with those before it. Once no other instruction goes with them, they are what goes. What is removed is used
-- by what is removed alone, so the next one is the greatest id that no instruction of those left uses.
use Rattle.std.specs.Prelude.{◌≡◌, refl, ℕ, zero, suc, Bool, true, false, not, ◌||◌, cond, nat_eq, Option, None, Some, List, [], ◌∷◌, ◌++◌, map, length, option_map, ⊤}
use Rattle.std.specs.List.{list_any}
use Rattle.std.specs.Int.{int_wrap}
use Rattle.ir_types.specs.declared.id.Id.{Id}
use Rattle.ir_types.specs.declared.inst.Inst.{Inst}
use Rattle.ir_types.specs.declared.module.Module.{Module}
use Rattle.ir_types.specs.Formed.{IsFormed}
use Rattle.vx_view.specs.declared.change.Change.{Change}
use Rattle.vx_view.specs.declared.change.Change.TheVariants.{Remove}
use Rattle.vx_view.specs.Answers.{find, found, Standing, after, is_value}
use Rattle.vx_view.specs.Addresses.{block_of}
use Rattle.vx_serial.specs.declared.node.Node.{Node}
use Rattle.vx_serial.specs.Window.{id, window, order}
use Rattle.vx_serial.specs.Legal.{bundles_of, ids_of, sums_of, adding}
use Rattle.vx_serial.specs.Tree.{tree_of, last_in}
use Rattle.vx_serial.specs.Rewriting.{Plan, plan_of, rewritten_window, is_id_in, joined_ids, without, uses_value, goes_with, going}
use Rattle.vx_serial.specs.Changing.{steps, greater, other_than, not_among, changes}
use Rattle.rf_rewrite.specs.Rewritten.{is_root_widened}

-- the instructions that have some of these ids
abbrev pub among : List Id → List Inst → List Inst
among ids [] = []
among ids (i ∷ is) = cond (is_id_in ids i.id) (i ∷ among ids is) (among ids is)

-- ---- what goes

-- an instruction of the block that is not gone goes with what is gone
abbrev pub GoesNext : Module → List Id → List Inst → List Inst → List Id → Id → Type 0
GoesNext m lanes new block gone x = (i : Inst) × (find x block ≡ Some i) × (is_id_in gone x ≡ false) × (goes_with m lanes new gone i ≡ true)

-- these go in turn, the last first
abbrev pub GoInTurn : Module → List Id → List Inst → List Inst → List Id → Type 0
GoInTurn m lanes new block [] = ⊤
GoInTurn m lanes new block (x ∷ gone) = GoesNext m lanes new block gone x × GoInTurn m lanes new block gone

abbrev pub is_either : List Id → List Id → Id → Bool
is_either lanes gone x = is_id_in lanes x || is_id_in gone x

-- of what lanes and what is gone use, nothing else goes with it
abbrev pub NoMoreGo : Module → List Id → List Inst → List Inst → List Id → Type 0
NoMoreGo m lanes new block gone =
    (user i : Inst) → find user.id block ≡ Some user → find i.id block ≡ Some i → is_either lanes gone user.id ≡ true → list_any (is_value i.id) user.opds ≡ true →
    goes_with m lanes new gone i ≡ true → is_id_in gone i.id ≡ true

-- each of some ids is that of an instruction
abbrev pub AllStand : List Id → List Inst → Type 0
AllStand ids block = (x : Id) → is_id_in ids x ≡ true → (i : Inst) × (find x block ≡ Some i)

-- the law: where an instruction is found in a formed module, these are what goes of its block, in the order of the block
abbrev pub GoneAre : Type 0
GoneAre =
    (m : Module) (x : Id) (s : Standing) (lanes : List Id) (new : List Inst) (gone : List Id) → IsFormed m → found m x ≡ Some s → AllStand lanes s.block →
    GoInTurn m lanes new s.block gone → NoMoreGo m lanes new s.block gone → going (length s.block) m lanes new s.block ≡ ids_of (among gone s.block)

-- ---- what is removed

-- the greatest of some ids that none of these instructions uses
abbrev pub greatest_free : List Inst → List Id → Option Id
greatest_free is [] = None
greatest_free is (x ∷ xs) = greater (not (uses_value x is)) x (greatest_free is xs)

abbrev pub taking : Option Id → (Id → List Id) → List Id
taking None more = []
taking (Some x) more = x ∷ more x

-- one after another, so many at most
abbrev pub removal_order : ℕ → List Inst → List Id → List Id
removal_order zero is left = []
removal_order (suc n) is left = taking (greatest_free is left) (λ x. removal_order n (without (x ∷ []) is) (other_than x left))

abbrev pub then_in_turn : List Inst → List Id → List Change → List Change
then_in_turn block left changes = changes ++ map Remove (removal_order (length left) (among left block) left)

abbrev pub in_turn_by : ℕ → List Inst → Plan → List Inst → Id → List Change
in_turn_by region block p window x = then_in_turn block (not_among (ids_of window) p.lanes ++ p.gone) (steps region p.lanes x window)

abbrev pub before_next : Module → ℕ → List Inst → Plan → Option Id → List Change
before_next m region block p None = []
before_next m region block p (Some x) = in_turn_by region block p (without p.gone (rewritten_window m region p)) x

abbrev pub changes_in : Module → ℕ → List Inst → Id → Plan → List Change
changes_in m region block last p = before_next m region block p (after last block)

abbrev pub changes_of : Module → ℕ → List Inst → Id → List Node → List (List Id) → Option (List Change)
changes_of m region block last tree bundles =
    option_map (λ groups. changes_in m region block last (plan_of m region block tree (joined_ids bundles) groups)) (order m block last bundles)

-- the changes of a region, with what is removed told on lists
abbrev pub changes_in_turn : Module → ℕ → List Id → Option (List Change)
changes_in_turn m region [] = None
changes_in_turn m region (s ∷ stores) = changes_of m region (block_of (found m s)) (last_in (s ∷ stores) s (block_of (found m s))) (tree_of m (s ∷ stores))
    (bundles_of (block_of (found m s)) (tree_of m (s ∷ stores)))

-- an id that the region does not create
abbrev pub IsOld : ℕ → Id → Type 0
IsOld region y = nat_eq y.region (suc region) ≡ false

abbrev pub AreOld : ℕ → List Id → Type 0
AreOld region ids = (y : Id) → is_id_in ids y ≡ true → IsOld region y

-- the region creates no id of the window of its bundles, nor that of the instruction after it, nor any of what goes
pub record IsOwn (m : Module) (region : ℕ) (block : List Inst) (last : Id) (tree : List Node) : Type 0 where
  pub window : AreOld region (ids_of (window block last (bundles_of block tree)))
  pub next : (x : Id) → after last block ≡ Some x → IsOld region x
  pub gone : (groups : List (List Inst)) → order m block last (bundles_of block tree) ≡ Some groups →
      AreOld region (plan_of m region block tree (joined_ids (bundles_of block tree)) groups).gone

-- the law: where the bundle of stores is widened and the region's ids are its own, they are the region's changes, whether they fit or not
abbrev pub RemovedInTurn : Type 0
RemovedInTurn =
    (m : Module) (region : ℕ) (x : Id) (stores : List Id) (s : Standing) → IsFormed m → found m x ≡ Some s → IsOwn m region s.block (last_in (x ∷ stores) x s.block) (tree_of m (x ∷ stores)) →
    is_root_widened (tree_of m (x ∷ stores)) ≡ true → changes m region (x ∷ stores) ≡ changes_in_turn m region (x ∷ stores)

-- ---- worked examples

-- of the two sums, their stores and the address of the second, the address is free only when its store is gone
in_turn : removal_order 3 (among (id 5 ∷ id 7 ∷ id 4 ∷ []) (sums_of 0)) (id 5 ∷ id 7 ∷ id 4 ∷ []) ≡ id 7 ∷ id 5 ∷ id 4 ∷ []
in_turn = refl

same_for_sums : changes (adding (sums_of 2)) 0 (id 6 ∷ id 7 ∷ []) ≡ changes_in_turn (adding (sums_of 2)) 0 (id 6 ∷ id 7 ∷ [])
unfolding int_wrap
same_for_sums = refl
