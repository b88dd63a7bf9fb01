-- The changes that lead from a module to the one in which a region was rewritten.
--
-- They are made before the instruction just after the window. Along the new window, a created instruction is put in, one that stays is moved,
-- and an extract takes the place of its lane and is moved. Then the lanes without an extract and what goes are removed: at each time the
-- greatest id of those left that no instruction uses any more.
use Rattle.std.specs.Prelude.{◌≡◌, refl, ℕ, zero, suc, Bool, true, false, not, cond, Option, None, Some, List, [], ◌∷◌, ◌++◌, length, option_map}
use Rattle.std.specs.Int.{int_wrap}
use Rattle.ir_types.specs.declared.id.Id.{Id}
use Rattle.ir_types.specs.declared.inst.Inst.{Inst}
use Rattle.ir_types.specs.declared.module.Module.{Module}
use Rattle.ir_types.specs.Available.{same_id}
use Rattle.vx_view.specs.declared.change.Change.{Change}
use Rattle.vx_view.specs.declared.change.Change.TheVariants.{Insert, Remove, Move, Replace}
use Rattle.vx_view.specs.Answers.{funcs_of, uses_of, found, after, is_less_id}
use Rattle.vx_view.specs.Addresses.{block_of}
use Rattle.vx_view.specs.Changes.{applied, all_applied}
use Rattle.vx_serial.specs.Window.{id, order}
use Rattle.vx_serial.specs.declared.node.Node.{Node}
use Rattle.vx_serial.specs.Legal.{bundles_of, ids_of, sums_of, adding}
use Rattle.vx_serial.specs.Tree.{tree_of, last_in}
use Rattle.vx_serial.specs.Rewriting.{Plan, plan_of, rewritten_window, is_created, is_id_in, some, joined_ids, without, of_numbers, of_a_lane}

-- ---- along the new window

abbrev pub step_by : Bool → Bool → Id → Inst → List Change
step_by true lane x i = Insert x i ∷ []
step_by false true x i = Replace i ∷ Move i.id x ∷ []
step_by false false x i = Move i.id x ∷ []

abbrev pub steps : ℕ → List Id → Id → List Inst → List Change
steps region lanes x [] = []
steps region lanes x (i ∷ is) = step_by (is_created region i) (is_id_in lanes i.id) x i ++ steps region lanes x is

-- ---- what is removed

abbrev pub is_unused : Module → Id → Bool
is_unused m x = not (some (uses_of x (funcs_of m.items)))

abbrev pub greater : Bool → Id → Option Id → Option Id
greater false x o = o
greater true x None = Some x
greater true x (Some y) = Some (cond (is_less_id x y) y x)

-- the greatest of some ids that no instruction uses
abbrev pub greatest_unused : Module → List Id → Option Id
greatest_unused m [] = None
greatest_unused m (x ∷ xs) = greater (is_unused m x) x (greatest_unused m xs)

abbrev pub other_than : Id → List Id → List Id
other_than x [] = []
other_than x (y ∷ ys) = cond (same_id x y) ys (y ∷ other_than x ys)

abbrev pub removing : Option Id → (Id → List Change) → List Change
removing None more = []
removing (Some x) more = Remove x ∷ more x

-- one after another, so many at most
abbrev pub removals : ℕ → Module → List Id → List Change
removals zero m left = []
removals (suc n) m left = removing (greatest_unused m left) (λ x. removals n (applied (Remove x) m) (other_than x left))

-- ---- the changes

abbrev pub not_among : List Id → List Id → List Id
not_among ids [] = []
not_among ids (x ∷ xs) = cond (is_id_in ids x) (not_among ids xs) (x ∷ not_among ids xs)

-- the steps, and then the removals of what the new window does not have
abbrev pub then_removals : Module → List Id → List Change → List Change
then_removals m left changes = changes ++ removals (length left) (all_applied changes m) left

abbrev pub changes_by : Module → ℕ → Plan → List Inst → Id → List Change
changes_by m region p window x = then_removals m (not_among (ids_of window) p.lanes ++ p.gone) (steps region p.lanes x window)

-- before the instruction just after the window; there is one, since a store ends no block
abbrev pub before_next : Module → ℕ → Plan → Option Id → List Change
before_next m region p None = []
before_next m region p (Some x) = changes_by m region p (without p.gone (rewritten_window m region p)) x

abbrev pub changes_in : Module → ℕ → List Inst → Id → Plan → List Change
changes_in m region block last p = before_next m region p (after last block)

abbrev pub changes_of : Module → ℕ → List Inst → Id → List Node → List (List Id) → Option (List Change)
changes_of m region block last tree bundles =
    option_map (λ groups. changes_in m region block last (plan_of m region block tree (joined_ids bundles) groups)) (order m block last bundles)

-- the changes of a region, where its root is widened
abbrev pub changes : Module → ℕ → List Id → Option (List Change)
changes m region [] = None
changes m region (s ∷ stores) = changes_of m region (block_of (found m s)) (last_in (s ∷ stores) s (block_of (found m s))) (tree_of m (s ∷ stores))
    (bundles_of (block_of (found m s)) (tree_of m (s ∷ stores)))

-- ---- worked examples: the changes lead to the module of the rewritten block

abbrev led_to : ℕ → Option Module
led_to a = option_map (λ cs. all_applied cs (adding (sums_of a))) (changes (adding (sums_of a)) 0 (id 6 ∷ id 7 ∷ []))

leads_without_lanes : led_to 0 ≡ Some (adding of_numbers)
unfolding int_wrap
leads_without_lanes = refl

leads_with_a_lane : led_to 2 ≡ Some (adding of_a_lane)
unfolding int_wrap
leads_with_a_lane = refl
