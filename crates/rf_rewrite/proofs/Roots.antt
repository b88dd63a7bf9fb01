-- The first node of a region's tree has the region's stores.
use Rattle.std.proofs.Common.{◌≡◌, refl, ap, ◌∙◌, ℕ, zero, suc, true, List, [], ◌∷◌, ◌++◌, length}
use Rattle.ir_types.specs.declared.id.Id.{Id}
use Rattle.ir_types.specs.declared.opd.Opd.{Opd}
use Rattle.ir_types.specs.declared.inst.Inst.{Inst}
use Rattle.ir_types.specs.declared.module.Module.{Module}
use Rattle.vx_serial.specs.declared.node.How.{How}
use Rattle.vx_serial.specs.declared.node.How.TheVariants.{Widen, Reuse, Ident, Pack}
use Rattle.vx_serial.specs.declared.node.Node.{Node}
use Rattle.vx_serial.specs.Legal.{insts_of, legal}
use Rattle.vx_serial.specs.Tree.{slot_count, slots_from, Visit, visit_all, with_slots, node, visited, visit, values_of, tree_in}
use Rattle.rf_rewrite.specs.Rewritten.{is_root_widened}

-- the first node has these lanes, and is had so
pub record Root (os : List Opd) (how : How) (tree : List Node) : Type 0 where
  pub first : Node
  pub more : List Node
  pub is : tree ≡ first ∷ more
  pub lanes : first.lanes ≡ os
  pub had : first.how ≡ how

module _ (os : List Opd) (how : How) where
  abbrev KeepsRoot : Visit → Type 0
  KeepsRoot f = (tree : List Node) (lanes : List Opd) → Root os how tree → Root os how (f tree lanes)

  root_append : (tree ns : List Node) → Root os how tree → Root os how (tree ++ ns)
  root_append tree ns r = record { first = r.first; more = r.more ++ ns; is = ap (λ u. u ++ ns) r.is; lanes = r.lanes; had = r.had }

  root_all : (f : Visit) → KeepsRoot f → (slots : List (List Opd)) (tree : List Node) (numbers : List ℕ) → Root os how tree → Root os how (visit_all f slots tree numbers).0
  root_all f keeps [] tree numbers r = r
  root_all f keeps (lanes ∷ more) tree numbers r = root_all f keeps more (f tree lanes) (numbers ++ length tree ∷ []) (keeps tree lanes r)

  slots_root : (n : ℕ) (slots : List ℕ) (tree : List Node) → Root os how tree → Root os how (with_slots n slots tree)
  slots_root n slots [] r = absurd (empty r.is)
    where
      empty : [] ≡ r.first ∷ r.more → ⊥
      empty e = cc
  slots_root zero slots (x ∷ xs) r = record {
    first = record { lanes = x.lanes; how = x.how; slots = slots };
    more = xs;
    is = refl;
    lanes = ap (λ (n : Node). n.lanes) (head r.is) ∙ r.lanes;
    had = ap (λ (n : Node). n.how) (head r.is) ∙ r.had;
  }
    where
      head : x ∷ xs ≡ r.first ∷ r.more → x ≡ r.first
      head e = cc
  slots_root (suc n) slots (x ∷ xs) r = record {
    first = x;
    more = with_slots n slots xs;
    is = refl;
    lanes = ap (λ (n : Node). n.lanes) (head r.is) ∙ r.lanes;
    had = ap (λ (n : Node). n.how) (head r.is) ∙ r.had;
  }
    where
      head : x ∷ xs ≡ r.first ∷ r.more → x ≡ r.first
      head e = cc

  visited_root : (f : Visit) → KeepsRoot f → (slots : List (List Opd)) (tree : List Node) (lanes : List Opd) (h : How) → Root os how (tree ++ node lanes h ∷ []) → Root os how (visited f slots tree lanes h)
  visited_root f keeps slots tree lanes Widen r =
      slots_root (length tree) (visit_all f slots (tree ++ node lanes Widen ∷ []) []).1 (visit_all f slots (tree ++ node lanes Widen ∷ []) []).0
      (root_all f keeps slots (tree ++ node lanes Widen ∷ []) [] r)
  visited_root f keeps slots tree lanes (Reuse n) r = r
  visited_root f keeps slots tree lanes (Ident v) r = r
  visited_root f keeps slots tree lanes (Pack c) r = r

  visit_root : (m : Module) (block : List Inst) (last : Id) (n : ℕ) → KeepsRoot (visit n m block last)
  visit_root m block last zero tree lanes r = r
  visit_root m block last (suc n) tree lanes r =
      visited_root (visit n m block last) (visit_root m block last n) (slots_from 0 (slot_count (insts_of block lanes)) (insts_of block lanes)) tree lanes (legal m block last tree lanes)
      (root_append tree (node lanes (legal m block last tree lanes) ∷ []) r)

-- where it is widened
pub tree_root : (m : Module) (block : List Inst) (last : Id) (stores : List Id) → is_root_widened (tree_in m block last stores) ≡ true → Root (values_of stores) Widen (tree_in m block last stores)
tree_root m block last stores w = by_how (legal m block last [] (values_of stores)) w
  where
    f : Visit
    f = visit (length block) m block last

    slots : List (List Opd)
    slots = slots_from 0 (slot_count (insts_of block (values_of stores))) (insts_of block (values_of stores))

    by_how : (h : How) → is_root_widened (visited f slots [] (values_of stores) h) ≡ true → Root (values_of stores) Widen (visited f slots [] (values_of stores) h)
    by_how Widen r =
        visited_root (values_of stores) Widen f (visit_root (values_of stores) Widen m block last (length block)) slots [] (values_of stores) Widen
        (record { first = node (values_of stores) Widen; more = []; is = refl; lanes = refl; had = refl })
    by_how (Reuse n) r = absurd cc
    by_how (Ident v) r = absurd cc
    by_how (Pack c) r = absurd cc
