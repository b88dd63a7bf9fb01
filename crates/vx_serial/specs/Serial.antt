-- What the pass makes of a module: region after region, in the order of the regions of the module that was read.
--
-- A region whose stores are widened is accepted where what is created costs less than the lanes and what goes, and is costly where not; any
-- other is unpackable, for the cause that packs its stores. Only an accepted region changes the module.
use Rattle.std.specs.Prelude.{◌≡◌, refl, ℕ, suc, Bool, true, false, ◌||◌, nat_lt, cond, Option, None, Some, List, [], ◌∷◌, ◌++◌, take}
use Rattle.std.specs.Int.{int_wrap}
use Rattle.ir_types.specs.declared.id.Id.{Id}
use Rattle.ir_types.specs.declared.inst.Inst.{Inst}
use Rattle.ir_types.specs.declared.table.Table.{Table}
use Rattle.ir_types.specs.declared.module.Module.{Module}
use Rattle.vx_cost.specs.Prices.{price_of}
use Rattle.vx_view.specs.declared.change.Change.{Change}
use Rattle.vx_view.specs.Answers.{found}
use Rattle.vx_view.specs.Addresses.{block_of}
use Rattle.vx_view.specs.Changes.{all_applied}
use Rattle.vx_serial.specs.Window.{id, order}
use Rattle.vx_serial.specs.Regions.{regions}
use Rattle.vx_serial.specs.declared.cause.Cause.TheVariants.{Constants}
use Rattle.vx_serial.specs.declared.node.How.{How}
use Rattle.vx_serial.specs.declared.node.How.TheVariants.{Widen, Reuse, Ident, Pack}
use Rattle.vx_serial.specs.declared.node.Node.{Node}
use Rattle.vx_serial.specs.declared.seed.Seed.{Seed}
use Rattle.vx_serial.specs.declared.verdict.Verdict.{Verdict}
use Rattle.vx_serial.specs.declared.verdict.Verdict.TheVariants.{Accepted, Costly, Unpackable}
use Rattle.vx_serial.specs.Legal.{bundles_of, sums_of, adding}
use Rattle.vx_serial.specs.Tree.{tree_of, last_in}
use Rattle.vx_serial.specs.Rewriting.{Plan, plan_of, rewritten_window, is_created, is_id_in, joined_ids, of_numbers}
use Rattle.vx_serial.specs.Changing.{changes_in}

-- ---- prices

-- the lanes and what goes
abbrev pub went : Plan → List Inst → List Inst
went p [] = []
went p (i ∷ is) = cond (is_id_in p.lanes i.id || is_id_in p.gone i.id) (i ∷ went p is) (went p is)

-- what is created, extracts among it
abbrev pub came : ℕ → Plan → List Inst → List Inst
came region p [] = []
came region p (i ∷ is) = cond (is_created region i || is_id_in p.lanes i.id) (i ∷ came region p is) (came region p is)

-- ---- one region

abbrev pub priced : ℕ → ℕ → List Change → Verdict × List Change
priced before after changes = cond (nat_lt after before) (Accepted before after, changes) (Costly before after, [])

abbrev pub planned : Module → Table → ℕ → List Inst → Id → Plan → Verdict × List Change
planned m table region block last p =
    priced (price_of table (went p block)) (price_of table (came region p (rewritten_window m region p))) (changes_in m region block last p)

-- there is an order, since the bundle that was widened last has one with those before
abbrev pub ordered : Module → Table → ℕ → List Inst → Id → List Node → List (List Id) → Option (List (List Inst)) → Verdict × List Change
ordered m table region block last tree bundles None = (Unpackable Constants, [])
ordered m table region block last tree bundles (Some groups) = planned m table region block last (plan_of m region block tree (joined_ids bundles) groups)

abbrev pub one_by : Module → Table → ℕ → List Inst → Id → List Node → How → Verdict × List Change
one_by m table region block last tree Widen =
    ordered m table region block last tree (bundles_of block tree) (order m block last (bundles_of block tree))
one_by m table region block last tree (Pack cause) = (Unpackable cause, [])
one_by m table region block last tree h = (Unpackable Constants, [])

-- the first node is the root
abbrev pub one_in : Module → Table → ℕ → List Inst → Id → List Node → Verdict × List Change
one_in m table region block last [] = (Unpackable Constants, [])
one_in m table region block last (root ∷ nodes) = one_by m table region block last (root ∷ nodes) root.how

-- the verdict on stores as the region of a number, and the changes
abbrev pub one : Module → Table → ℕ → List Id → Verdict × List Change
one m table region [] = (Unpackable Constants, [])
one m table region (s ∷ stores) =
    one_in m table region (block_of (found m s)) (last_in (s ∷ stores) s (block_of (found m s))) (tree_of m (s ∷ stores))

-- ---- the pass

-- regions one after another, of which the first has a number
abbrev pub passed : Table → ℕ → List Seed → Module → Module
passed table number [] m = m
passed table number (r ∷ rs) m = passed table (suc number) rs (all_applied (one m table number r.stores).1 m)

-- the module after the first so many regions, in vector registers of so many bits
abbrev pub serial : Module → Table → ℕ → ℕ → Module
serial m table width k = passed table 0 (take k (regions m width)) m

-- ---- a worked example: with a cost of one for each instruction, five instructions go for six that come

abbrev unit : Table
unit = record { costs = 1 ∷ 1 ∷ 1 ∷ 1 ∷ 1 ∷ 1 ∷ 1 ∷ 1 ∷ 1 ∷ 1 ∷ 1 ∷ 1 ∷ 1 ∷ 1 ∷ 1 ∷ 1 ∷ 1 ∷ 1 ∷ 1 ∷ 1 ∷ [] }

verdict_of_sums : (one (adding (sums_of 0)) unit 0 (id 6 ∷ id 7 ∷ [])).0 ≡ Costly 5 6
unfolding int_wrap
verdict_of_sums = refl

-- with all that gathers for nothing it is accepted, and the pass makes the rewritten block
abbrev free_lanes : Table
free_lanes = record { costs = 1 ∷ 1 ∷ 1 ∷ 1 ∷ 1 ∷ 1 ∷ 1 ∷ 1 ∷ 1 ∷ 1 ∷ 1 ∷ 1 ∷ 1 ∷ 1 ∷ 1 ∷ 1 ∷ 1 ∷ 0 ∷ 0 ∷ 0 ∷ [] }

accepted_free : (one (adding (sums_of 0)) free_lanes 0 (id 6 ∷ id 7 ∷ [])).0 ≡ Accepted 5 2
unfolding int_wrap
accepted_free = refl

rewritten_free : serial (adding (sums_of 0)) free_lanes 128 1 ≡ adding of_numbers
unfolding int_wrap
rewritten_free = refl

-- where each costs one the module stays
left_alone : serial (adding (sums_of 0)) unit 128 1 ≡ adding (sums_of 0)
unfolding int_wrap
left_alone = refl
