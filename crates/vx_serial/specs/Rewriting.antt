-- What stands in a block after its region was rewritten.
--
-- The window is written in its order. A bundle that is widened becomes its gathers, slot by slot, one vector instruction, and its extracts,
-- lane by lane. A gather of numbers alone is a literal; any other begins with a literal that has the numbers in place and poison elsewhere,
-- and puts the other lanes in one after another. The vector instruction has the flags that all lanes have, and the pointer and align of the
-- first. A lane is extracted, under its own id and name, where something that stays or a gather uses it. What only lanes and what goes use,
-- goes too. Created values have no name, and are numbered along the block.
use Rattle.std.specs.Prelude.{◌≡◌, refl, ℕ, zero, suc, Bool, true, false, not, ◌&&◌, ◌||◌, nat_eq, cond, Option, None, Some, List, [], ◌∷◌, ◌++◌, map, length, slice_get, get_or, option_map}
use Rattle.std.specs.List.{list_any, list_all}
use Rattle.std.specs.Int.{int_wrap}
use Rattle.vx_num.specs.declared.operations.BinOp.TheVariants.{Add, Sub}
use Rattle.vx_num.specs.declared.operations.Flags.{Flags}
use Rattle.ir_types.specs.declared.id.Id.{Id}
use Rattle.ir_types.specs.declared.id.Use.{Use}
use Rattle.ir_types.specs.declared.ty.Ty.{Ty}
use Rattle.ir_types.specs.declared.ty.Ty.TheVariants.{Void, Int, Row}
use Rattle.ir_types.specs.declared.literal.Literal.{Literal}
use Rattle.ir_types.specs.declared.opd.Opd.{Opd}
use Rattle.ir_types.specs.declared.opd.Opd.TheVariants.{Val, Lit}
use Rattle.ir_types.specs.declared.op.Op.{Op}
use Rattle.ir_types.specs.declared.op.Op.TheVariants.{Bin, Icmp, Cast, Select, Extract, Insert, Shuffle, Gep, Load, Store, Ret}
use Rattle.ir_types.specs.declared.inst.Inst.{Inst}
use Rattle.ir_types.specs.declared.module.Module.{Module}
use Rattle.ir_types.specs.Available.{same_id}
use Rattle.ir_types.specs.Typed.{lane_width}
use Rattle.vx_view.specs.Answers.{find, funcs_of, uses_of, found, is_value}
use Rattle.vx_view.specs.Addresses.{value, number, line, block_of}
use Rattle.vx_serial.specs.Window.{id, order, from_member, up_to}
use Rattle.vx_serial.specs.declared.node.How.{How}
use Rattle.vx_serial.specs.declared.node.How.TheVariants.{Widen, Reuse, Ident, Pack}
use Rattle.vx_serial.specs.declared.node.Node.{Node}
use Rattle.vx_serial.specs.Legal.{is_widened, is_literal, ty_of, insts_of, bundles_of, sums_of, adding}
use Rattle.vx_serial.specs.Tree.{slot_count, tree_of, last_in}

-- ---- what is made so far: the vectors of nodes, by their numbers, the number of the next value, and the instructions in order

pub record Made : Type 0 where
  pub vectors : List (ℕ × Id)
  pub next : ℕ
  pub insts : List Inst

abbrev pub start : Made
start = record { vectors = []; next = 0; insts = [] }

-- the id of a created value
abbrev pub created : ℕ → ℕ → Id
created region k = record { region = suc region; k = k }

abbrev pub made : ℕ → Ty → Op → List Opd → Made → Made
made region ty op opds s = record {
  vectors = s.vectors;
  next = suc s.next;
  insts = s.insts ++ (record { id = created region s.next; name = None; ty = ty; op = op; opds = opds }) ∷ [];
}

-- the value that was made last
abbrev pub last_id : ℕ → ℕ → Id
last_id region zero = created region 0
last_id region (suc k) = created region k

-- ---- gathers

abbrev pub lane_of : List (Option ℕ) → Option ℕ
lane_of [] = None
lane_of (l ∷ ls) = l

-- the number of a literal lane, and poison in the place of any other
abbrev pub written_lane : Opd → Option ℕ
written_lane (Lit l) = lane_of l.lanes
written_lane _ = None

abbrev pub row_of : ℕ → Option Ty → Ty
row_of n None = Row n 0
row_of n (Some t) = Row n (lane_width t)

abbrev pub first_ty : Module → List Opd → Option Ty
first_ty m [] = None
first_ty m (o ∷ os) = ty_of m o

abbrev pub literal_of : Ty → List Opd → Opd
literal_of t lanes = Lit (record { ty = t; lanes = map written_lane lanes })

abbrev pub index_of : ℕ → Opd
index_of k = Lit (record { ty = Int 64; lanes = Some k ∷ [] })

-- a vector as it grows by gathered lanes
pub record Gathering : Type 0 where
  pub vector : Opd
  pub made_so_far : Made

-- lanes from a place on, each that is no literal put into the vector
abbrev pub gathered : ℕ → Ty → ℕ → List Opd → Gathering → Gathering
gathered region t at [] g = g
gathered region t at (Lit l ∷ os) g = gathered region t (suc at) os g
gathered region t at (o ∷ os) g =
    gathered region t (suc at) os (record {
      vector = Val (created region g.made_so_far.next);
      made_so_far = made region t Insert (g.vector ∷ o ∷ index_of at ∷ []) g.made_so_far;
    })

abbrev pub gather : Module → ℕ → List Opd → Made → Gathering
gather m region lanes s =
    gathered region (row_of (length lanes) (first_ty m lanes)) 0 lanes (record { vector = literal_of (row_of (length lanes) (first_ty m lanes)) lanes; made_so_far = s })

-- ---- slots of a widened bundle

-- the vector of the node of a number
abbrev pub vector_of : ℕ → List (ℕ × Id) → Option Id
vector_of n [] = None
vector_of n (v ∷ vs) = cond (nat_eq n v.0) (Some v.1) (vector_of n vs)

-- poison where there is no such vector, which is nowhere in the order of a window
abbrev pub of_vector : Ty → Option Id → Opd
of_vector t None = literal_of t []
of_vector t (Some v) = Val v

-- the vector of a slot, of which this node tells how it is had: that of a node, one that is there, or a gather
abbrev pub slot_by : Module → ℕ → ℕ → List Opd → How → Made → Gathering
slot_by m region number lanes Widen s = record { vector = of_vector (row_of (length lanes) (first_ty m lanes)) (vector_of number s.vectors); made_so_far = s }
slot_by m region number lanes (Reuse n) s = record { vector = of_vector (row_of (length lanes) (first_ty m lanes)) (vector_of n s.vectors); made_so_far = s }
slot_by m region number lanes (Ident v) s = record { vector = Val v; made_so_far = s }
slot_by m region number lanes (Pack cause) s = gather m region lanes s

abbrev pub slot_of : Module → ℕ → ℕ → Option Node → Made → Gathering
slot_of m region number None s = record { vector = literal_of (Row 0 0) []; made_so_far = s }
slot_of m region number (Some n) s = slot_by m region number n.lanes n.how s

abbrev pub with_slot : Opd → List Opd × Made → List Opd × Made
with_slot o r = (o ∷ r.0, r.1)

-- the vectors of some slots, one after another
abbrev pub slots_in : Module → ℕ → List Node → List ℕ → Made → List Opd × Made
slots_in m region tree [] s = ([], s)
slots_in m region tree (n ∷ ns) s =
    with_slot (slot_of m region n (slice_get tree n) s).vector (slots_in m region tree ns (slot_of m region n (slice_get tree n) s).made_so_far)

-- ---- vector instructions

abbrev pub both : Flags → Flags → Flags
both a b = record { nuw = a.nuw && b.nuw; nsw = a.nsw && b.nsw; exact = a.exact && b.exact; disjoint = a.disjoint && b.disjoint }

-- the first operation, with the flags that both have
abbrev pub common : Op → Op → Op
common (Bin op f) (Bin _ g) = Bin op (both f g)
common (Cast op n) (Cast _ k) = Cast op (n && k)
common op _ = op

abbrev pub common_op : Op → List Inst → Op
common_op op [] = op
common_op op (i ∷ is) = common_op (common op i.op) is

-- the pointer of the first lane, where the lanes are loads or stores
abbrev pub pointer_of : Op → List Opd → List Opd
pointer_of (Load align) os = os
pointer_of (Store align) (v ∷ p) = p
pointer_of _ os = []

-- ---- extracts

-- one lane after another, under its own id and name, where it is wanted
abbrev pub extracts : (Id → Bool) → Id → ℕ → List Inst → List Inst
extracts wanted vector at [] = []
extracts wanted vector at (i ∷ is) =
    cond (wanted i.id)
    (record { id = i.id; name = i.name; ty = i.ty; op = Extract; opds = Val vector ∷ index_of at ∷ [] } ∷ extracts wanted vector (suc at) is)
    (extracts wanted vector (suc at) is)

abbrev pub with_insts : List Inst → Made → Made
with_insts is s = record { vectors = s.vectors; next = s.next; insts = s.insts ++ is }

abbrev pub with_vector : ℕ → Id → Made → Made
with_vector n v s = record { vectors = (n, v) ∷ s.vectors; next = s.next; insts = s.insts }

-- the vector instruction of lanes of which `i` is the first, after its gathers, and then the extracts
abbrev pub widened_by : (Id → Bool) → ℕ → ℕ → Inst → List Inst → List Opd × Made → Made
widened_by wanted region number i is r =
    with_insts (extracts wanted (created region r.1.next) 0 (i ∷ is))
    (with_vector number (created region r.1.next)
    (made region (row_of (suc (length is)) (Some i.ty)) (common_op i.op is) (r.0 ++ pointer_of i.op i.opds) r.1))

abbrev pub widened : Module → (Id → Bool) → ℕ → List Node → ℕ → List ℕ → List Inst → Made → Made
widened m wanted region tree number slots [] s = s
widened m wanted region tree number slots (i ∷ is) s = widened_by wanted region number i is (slots_in m region tree slots s)

-- ---- the window

-- the widened node of which an instruction is the first lane, with its number, where the first node has one
abbrev pub is_first_lane : Id → List Opd → Bool
is_first_lane x [] = false
is_first_lane x (o ∷ os) = is_value x o

abbrev pub bundle_of : Id → ℕ → List Node → Option (ℕ × List ℕ)
bundle_of x at [] = None
bundle_of x at (n ∷ ns) = cond (is_widened n.how && is_first_lane x n.lanes) (Some (at, n.slots)) (bundle_of x (suc at) ns)

abbrev pub group_by : Module → (Id → Bool) → ℕ → List Node → List Inst → Option (ℕ × List ℕ) → Made → Made
group_by m wanted region tree is None s = with_insts is s
group_by m wanted region tree is (Some b) s = widened m wanted region tree b.0 b.1 is s

abbrev pub group_in : Module → (Id → Bool) → ℕ → List Node → List Inst → Made → Made
group_in m wanted region tree [] s = s
group_in m wanted region tree (i ∷ is) s = group_by m wanted region tree (i ∷ is) (bundle_of i.id 0 tree) s

-- the groups of a window in their order
abbrev pub written : Module → (Id → Bool) → ℕ → List Node → List (List Inst) → Made → Made
written m wanted region tree [] s = s
written m wanted region tree (g ∷ gs) s = written m wanted region tree gs (group_in m wanted region tree g s)

-- ---- what goes

abbrev pub is_created : ℕ → Inst → Bool
is_created region i = nat_eq i.id.region (suc region)

abbrev pub only_created : ℕ → List Inst → List Inst
only_created region [] = []
only_created region (i ∷ is) = cond (is_created region i) (i ∷ only_created region is) (only_created region is)

abbrev pub uses_value : Id → List Inst → Bool
uses_value x is = list_any (λ (i : Inst). list_any (is_value x) i.opds) is

-- what can go without being missed but for its value
abbrev pub may_go : Op → Bool
may_go (Bin op flags) = true
may_go (Icmp pred) = true
may_go (Cast op nneg) = true
may_go Select = true
may_go (Gep elem inbounds) = true
may_go Extract = true
may_go Insert = true
may_go (Shuffle mask) = true
may_go _ = false

abbrev pub is_id_in : List Id → Id → Bool
is_id_in ids x = list_any (same_id x) ids

abbrev pub some : {A : Type 0} → List A → Bool
some [] = false
some (x ∷ xs) = true

-- it has a user, each is a lane or goes, and nothing created uses it
abbrev pub goes_with : Module → List Id → List Inst → List Id → Inst → Bool
goes_with m lanes new gone i =
    may_go i.op && not (is_id_in lanes i.id) && some (uses_of i.id (funcs_of m.items))
    && list_all (λ (u : Use). is_id_in lanes u.user || is_id_in gone u.user) (uses_of i.id (funcs_of m.items)) && not (uses_value i.id new)

abbrev pub those_gone : Module → List Id → List Inst → List Id → List Inst → List Id
those_gone m lanes new gone [] = []
those_gone m lanes new gone (i ∷ is) = cond (goes_with m lanes new gone i) (i.id ∷ those_gone m lanes new gone is) (those_gone m lanes new gone is)

-- what goes by so many looks at the block, each with what went by the one before
abbrev pub going : ℕ → Module → List Id → List Inst → List Inst → List Id
going zero m lanes new block = []
going (suc n) m lanes new block = those_gone m lanes new (going n m lanes new block) block

-- ---- the block

abbrev pub joined_ids : List (List Id) → List Id
joined_ids [] = []
joined_ids (b ∷ bs) = b ++ joined_ids bs

-- what a region's rewriting is made of: the window in its order, its tree, all lanes, and what goes
pub record Plan : Type 0 where
  pub groups : List (List Inst)
  pub tree : List Node
  pub lanes : List Id
  pub gone : List Id

-- a lane is wanted where an instruction that stays, or a gather, uses it
abbrev pub is_stayer : List Id → List Id → Use → Bool
is_stayer lanes gone u = not (is_id_in lanes u.user) && not (is_id_in gone u.user)

abbrev pub is_wanted : Module → List Id → List Id → List Inst → Id → Bool
is_wanted m lanes gone new x = list_any (is_stayer lanes gone) (uses_of x (funcs_of m.items)) || uses_value x new

abbrev pub without : List Id → List Inst → List Inst
without gone [] = []
without gone (i ∷ is) = cond (is_id_in gone i.id) (without gone is) (i ∷ without gone is)

-- the instructions that are made, whatever is wanted
abbrev pub new_insts : Module → ℕ → List Node → List (List Inst) → List Inst
new_insts m region tree groups = only_created region (written m (λ x. false) region tree groups start).insts

abbrev pub plan_of : Module → ℕ → List Inst → List Node → List Id → List (List Inst) → Plan
plan_of m region block tree lanes groups = record {
  groups = groups;
  tree = tree;
  lanes = lanes;
  gone = going (length block) m lanes (new_insts m region tree groups) block;
}

abbrev pub before_member : List (List Id) → List Inst → List Inst
before_member bundles [] = []
before_member bundles (i ∷ is) = cond (list_any (λ b. is_id_in b i.id) bundles) [] (i ∷ before_member bundles is)

abbrev pub after_inst : Id → List Inst → List Inst
after_inst last [] = []
after_inst last (i ∷ is) = cond (same_id i.id last) is (after_inst last is)

-- the window of a plan, rewritten
abbrev pub rewritten_window : Module → ℕ → Plan → List Inst
rewritten_window m region p =
    (written m (is_wanted m p.lanes p.gone (new_insts m region p.tree p.groups)) region p.tree p.groups start).insts

-- the block of a plan, rewritten, where these bundles are widened and `last` is the region's last store
abbrev pub rewritten_by : Module → ℕ → List Inst → List (List Id) → Id → Plan → List Inst
rewritten_by m region block bundles last p =
    without p.gone (before_member bundles block ++ (rewritten_window m region p ++ after_inst last block))

abbrev pub rewritten_in : Module → ℕ → List Inst → Id → List Node → List (List Id) → Option (List Inst)
rewritten_in m region block last tree bundles =
    option_map (λ groups. rewritten_by m region block bundles last (plan_of m region block tree (joined_ids bundles) groups)) (order m block last bundles)

-- the block of a region's stores after its rewriting, where its root is widened
abbrev pub rewritten : Module → ℕ → List Id → Option (List Inst)
rewritten m region [] = None
rewritten m region (s ∷ stores) = rewritten_in m region (block_of (found m s)) (last_in (s ∷ stores) s (block_of (found m s))) (tree_of m (s ∷ stores))
    (bundles_of (block_of (found m s)) (tree_of m (s ∷ stores)))

-- ---- a worked example: two stores of sums become one store of one sum; the address of the second store goes, and the difference stays

abbrev pair : Ty
pair = Row 2 32

abbrev new : ℕ → Op → List Opd → Inst
new k op opds = record { id = created 0 k; name = None; ty = pair; op = op; opds = opds }

abbrev vector : ℕ → Opd
vector k = Val (created 0 k)

abbrev poison : Opd
poison = Lit (record { ty = pair; lanes = None ∷ None ∷ [] })

abbrev plain : Flags
plain = record { nuw = false; nsw = false; exact = false; disjoint = false }

-- the instructions before the second sum's or the difference's place, and the store
abbrev gathers : List Inst
gathers =
    new 0 Insert (poison ∷ value 0 ∷ number 0 ∷ [])
    ∷ new 1 Insert (vector 0 ∷ value 1 ∷ number 1 ∷ [])
    ∷ new 2 Insert (poison ∷ value 1 ∷ number 0 ∷ [])
    ∷ new 3 Insert (vector 2 ∷ value 0 ∷ number 1 ∷ [])
    ∷ new 4 (Bin Add plain) (vector 1 ∷ vector 3 ∷ []) ∷ []

abbrev pub one_store : ℕ → List Inst
one_store a = line 3 (Int 32) (Bin Sub plain) (value a ∷ value 1 ∷ []) ∷ new 5 (Store 4) (vector 4 ∷ value 8 ∷ []) ∷ line 9 Void Ret [] ∷ []

abbrev pub of_numbers : List Inst
of_numbers = gathers ++ one_store 0

without_lanes : rewritten (adding (sums_of 0)) 0 (id 6 ∷ id 7 ∷ []) ≡ Some of_numbers
unfolding int_wrap
without_lanes = refl

-- where the difference is of the first sum, that lane is extracted
abbrev pub of_a_lane : List Inst
of_a_lane = gathers ++ (line 2 (Int 32) Extract (vector 4 ∷ number 0 ∷ []) ∷ one_store 2)

with_a_lane : rewritten (adding (sums_of 2)) 0 (id 6 ∷ id 7 ∷ []) ≡ Some of_a_lane
unfolding int_wrap
with_a_lane = refl
