-- The changes of a region lead to the module in which it is rewritten.
use Rattle.std.proofs.Common.{◌≡◌, refl, sym, ap, ◌∙◌, subst, ℕ, suc, ◌+◌, ◌-◌, ◌≤◌, ◌⊎◌, inl, inr, Bool, true, false, ◌&&◌, Option, None, Some, List, [], ◌∷◌, ◌++◌, map, cond, nat_eq, option_map, arith, length, append_assoc}
use Rattle.std.specs.Prelude.{is_none}
use Rattle.std.specs.List.{list_any, list_all}
use Rattle.std.proofs.lemmas.Bool.Decides.{nat_tests}
use Rattle.ir_types.specs.declared.id.Id.{Id}
use Rattle.ir_types.specs.declared.inst.Inst.{Inst}
use Rattle.ir_types.specs.declared.module.Module.{Module}
use Rattle.ir_types.specs.Walks.{IsReached}
use Rattle.ir_types.specs.Available.{same_id, graph_of}
use Rattle.ir_types.specs.Formed.{is_phi, is_terminator, IsFormed, IsFresh, IsLawful, ids_of as module_ids}
use Rattle.ir_types.proofs.Formed.{Every, every_of_all}
use Rattle.ir_types.proofs.Among.{same_is, same_itself}
use Rattle.vx_view.specs.declared.change.Change.{Change}
use Rattle.vx_view.specs.declared.change.Change.TheVariants.{Remove}
use Rattle.vx_view.specs.Answers.{funcs_of, find, found, after as next_after, uses_of, id_of}
use Rattle.vx_view.specs.Addresses.{block_of}
use Rattle.vx_view.specs.Changes.{applied, all_applied, AllFit}
use Rattle.sb_uses.specs.Totals.{id_times}
use Rattle.vx_serial.specs.declared.node.Node.{Node}
use Rattle.vx_serial.specs.Window.{is_member, up_to, from_member, window, order_in, order, joined}
use Rattle.vx_serial.specs.Bundles.{ids_of, AreBundles}
use Rattle.vx_serial.specs.Near.{looked_at}
use Rattle.vx_serial.specs.Legal.{bundles_of, insts_of, inst_of, is_there, reused, identity, causes, first_cause, packed, or_else}
use Rattle.vx_serial.specs.Tree.{values_of, slot_count, slots_from, visit, visited, last_in, tree_in, tree_of}
use Rattle.vx_serial.specs.Rewriting.{start, is_created, is_id_in, without, joined_ids, before_member, after_inst, written, only_created, uses_value, going, Plan, new_insts, plan_of, is_wanted, rewritten_by, rewritten_in, rewritten}
use Rattle.vx_serial.specs.Changing.{steps, removals, not_among, before_next, changes_in, changes_of, changes}
use Rattle.vx_serial.proofs.Places.{member_joined}
use Rattle.rf_order.proofs.Windows.{orders_reordered}
use Rattle.vx_serial.specs.declared.cause.Cause.{Cause}
use Rattle.vx_serial.specs.declared.node.How.TheVariants.{Reuse, Ident}
use Rattle.rf_rewrite.specs.Rewritten.{with_insts, is_root_widened, Leads, ChangesLead}
use Rattle.rf_rewrite.specs.Removing.{among, removal_order, changes_in_turn, IsOwn, RemovedInTurn}
use Rattle.rf_rewrite.specs.Removing as in_turn
use Rattle.rf_rewrite.proofs.Removing.{removed_in_turn}
use Rattle.rf_rewrite.proofs.Contexts.{Context, plug, one_of, times, times_append, around, ids_plug, place_of, found_plug}
use Rattle.rf_rewrite.proofs.Parts.{with_insts_plug, defines_found, split_found}
use Rattle.rf_rewrite.proofs.Window.{Fine, numbers, window_is, window_leads, find_append, find_front, find_times, find_id}
use Rattle.rf_rewrite.proofs.Gone.{uses_id, Removable, Goes, all_go, find_some}
use Rattle.rf_rewrite.proofs.Taking.{Takes, takes_fine, takes_without}
use Rattle.rf_rewrite.proofs.Making.{every_map, Ready, Kind, Writes, Member, IsGroup, written_is, written_wants}
use Rattle.rf_rewrite.proofs.Alike.{written_alike}
use Rattle.rf_rewrite.proofs.Alongs.{written_times, along_kinds}
use Rattle.rf_rewrite.proofs.Groups.{block_cut, has_of, member_from, any_times, once_times, reordered_times, HasFirst, order_groups, joined_is}
use Rattle.rf_rewrite.proofs.Trees.{TreeOk, FirstSome, firsts, alone, IsLane, nodes_known, causes_none, false_of_not}
use Rattle.rf_rewrite.proofs.Blocks.{here_of, func_in, times_few, block_formed, operands_known, fresh_times, ends_front, ends_after, phis_after}
use Rattle.rf_rewrite.proofs.Earlier.{stands_earlier}
use Rattle.rf_rewrite.proofs.Scan.{users, Leaves, going_leaves, going_once, unwanted}
use Rattle.rf_rewrite.proofs.Left.{without_append, gone_times, kept_times, fewer_times, left_is}
use Rattle.rf_rewrite.proofs.Setting.{MayGo, Setting, leaves, after, among_after, closing}
use Rattle.rf_rewrite.proofs.Setting.{going as going_facts}
use Rattle.rf_rewrite.proofs.Cutting.{every_find, every_without, every_left, every_right, drop_times, among_times, up_to_has, next_is, FoundParts, found_parts, every_joined, last_among, unused_new, old_region}
use Rattle.rf_rewrite.proofs.Stores as of_stores
use Rattle.vx_serial.proofs.Decided.{true_false, and_right}
use Rattle.rf_rewrite.proofs.Facts.{some_is, append_none}

-- ---- changes one after another

applied_append : (cs es : List Change) (m : Module) → all_applied (cs ++ es) m ≡ all_applied es (all_applied cs m)
applied_append [] es m = refl
applied_append (c ∷ cs) es m = applied_append cs es (applied c m)

fit_append : (cs es : List Change) (m : Module) → AllFit cs m → AllFit es (all_applied cs m) → AllFit (cs ++ es) m
fit_append [] es m f g = g
fit_append (c ∷ cs) es m f g = (f.0, fit_append cs es (applied c m) f.1 g)

-- ---- the law, on a block that is cut

module _ (c : Context) (front ws_old : List Inst) (x : Inst) (zs : List Inst) (region : ℕ) (s : Id) (stores : List Id) where
  abbrev block : List Inst
  block = front ++ (ws_old ++ x ∷ zs)

  abbrev whole : Module
  whole = plug c block

  abbrev base : Id → ℕ
  base y = id_times y (module_ids whole)

  abbrev last : Id
  last = last_in (s ∷ stores) s block

  abbrev tree : List Node
  tree = tree_in whole block last (s ∷ stores)

  abbrev bundles : List (List Id)
  bundles = bundles_of block tree

  abbrev lanes : List Id
  lanes = joined bundles

  module _ (formed : IsFormed whole) (old : (y : Id) → 1 ≤ times y ws_old → nat_eq y.region (suc region) ≡ false) (x_old : nat_eq x.id.region (suc region) ≡ false)
      (store : Inst) (finds : find s block ≡ Some store) (each : Every (λ y. 1 ≤ times y block) (s ∷ stores)) (root : is_root_widened tree ≡ true)
      (cut_front : before_member bundles block ≡ front) (cut_window : window block last bundles ≡ ws_old) (cut_after : after_inst last block ≡ x ∷ zs) where
    few : (y : Id) → around c y + times y block ≤ 1
    few = of_stores.few c block s stores formed each root

    few_in : (y : Id) → times y block ≤ 1
    few_in = of_stores.few_in c block s stores formed each root

    in_base : (y : Id) → 1 ≤ times y block → 1 ≤ base y
    in_base = of_stores.in_base c block s stores formed each root

    ok : TreeOk (length c.globals) base whole block last (λ y. refl) (operands_known c block formed) tree
    ok = of_stores.ok c block s stores formed each root

    lane_is : (y : Id) → is_id_in lanes y ≡ true → IsLane (length c.globals) base whole block last (λ y. refl) (operands_known c block formed) y
    lane_is = of_stores.lane_is c block s stores formed each root

    store_lane : (y : Id) → is_id_in (s ∷ stores) y ≡ true → is_id_in lanes y ≡ true
    store_lane = of_stores.store_lane c block s stores formed each root

    first_in : is_id_in (s ∷ stores) s ≡ true
    first_in = of_stores.first_in c block s stores formed each root

    -- a lane stands in the window
    lane_window : (y : Id) → is_id_in lanes y ≡ true → 1 ≤ times y ws_old
    lane_window y h =
        let l = lane_is y h in
        let id : same_id l.inst.id y ≡ true = find_id y block l.inst l.stands in
        let near : list_any (λ (j : Inst). same_id j.id y) (looked_at block last) ≡ true =
        ap (λ v. list_any (λ (j : Inst). same_id j.id v) (looked_at block last)) (sym (same_is l.inst.id y id)) ∙ l.near in
        let some = among_times y (looked_at block last) near in
        let less = drop_times y (length (up_to last block) - 256) (up_to last block) in
        let same = member_from bundles y (up_to last block) (member_joined bundles y ∙ h) in
        let at = ap (times y) cut_window in
        omega (arith, some, less, same, at)

    window_block : (y : Id) (i : Inst) → find y ws_old ≡ Some i → find y block ≡ Some i
    window_block y i e =
        let some = find_times y ws_old i e in
        let le = few_in y in
        let sum = times_append y front (ws_old ++ x ∷ zs) in
        let then = times_append y ws_old (x ∷ zs) in
        find_append y front (ws_old ++ x ∷ zs) (omega (arith, some, le, sum, then)) ∙ find_front y ws_old (x ∷ zs) i e

    -- ---- phis and terminators

    no_ends : Every (λ (i : Inst). is_terminator i.op ≡ false) (front ++ ws_old)
    no_ends = ends_front (front ++ ws_old) zs x (subst Rattle.ir_types.specs.Formed.EndsOnce (sym (append_assoc front ws_old (x ∷ zs))) (block_formed c block formed).ends)

    -- a window begins with a member
    window_head : (l : List Inst) → from_member bundles l ≡ ws_old → (ws_old ≡ []) ⊎ ((j : Inst) × (more : List Inst) × (ws_old ≡ j ∷ more) × (is_member bundles j.id ≡ true))
    window_head [] e = inl (sym e)
    window_head (i ∷ l) e = by_test (is_member bundles i.id) refl e (window_head l)
      where
        by_test : (b : Bool) → is_member bundles i.id ≡ b → cond b (i ∷ l) (from_member bundles l) ≡ ws_old →
            (from_member bundles l ≡ ws_old → (ws_old ≡ []) ⊎ ((j : Inst) × (more : List Inst) × (ws_old ≡ j ∷ more) × (is_member bundles j.id ≡ true))) →
            (ws_old ≡ []) ⊎ ((j : Inst) × (more : List Inst) × (ws_old ≡ j ∷ more) × (is_member bundles j.id ≡ true))
        by_test true m r more = inr (i, l, sym r, m)
        by_test false m r more = more r

    never_empty : ws_old ≡ [] → ⊥
    never_empty e = let some = lane_window s (store_lane s first_in) in let none = ap (times s) e in omega (arith, some, none)

    head : (j : Inst) × (more : List Inst) × (ws_old ≡ j ∷ more) × (is_member bundles j.id ≡ true)
    head = by_case (window_head (up_to last block) cut_window)
      where
        by_case : (ws_old ≡ []) ⊎ ((j : Inst) × (more : List Inst) × (ws_old ≡ j ∷ more) × (is_member bundles j.id ≡ true)) → (j : Inst) × (more : List Inst) × (ws_old ≡ j ∷ more) × (is_member bundles j.id ≡ true)
        by_case (inl e) = absurd (never_empty e)
        by_case (inr h) = h

    head_found : find head.0.id block ≡ Some head.0
    head_found = window_block head.0.id head.0 (ap (find head.0.id) head.2 ∙ ap (λ b. cond b (Some head.0) (find head.0.id head.1)) (same_itself head.0.id))

    head_plain : is_phi head.0.op ≡ false
    head_plain =
        let l = lane_is head.0.id (sym (member_joined bundles head.0.id) ∙ head.3) in
        ap (λ (i : Inst). is_phi i.op) (some_is (sym head_found ∙ l.stands)) ∙ l.may.0

    no_phis : Every (λ (i : Inst). is_phi i.op ≡ false) (head.1 ++ x ∷ zs)
    no_phis = phis_after true front head.0 (head.1 ++ x ∷ zs) (subst (λ w. Rattle.ir_types.specs.Formed.PhisFirst true (front ++ (w ++ x ∷ zs))) head.2 (block_formed c block formed).phis) head_plain

    plain_x : is_phi x.op ≡ false
    plain_x = (every_right (λ (i : Inst). is_phi i.op ≡ false) head.1 (x ∷ zs) no_phis).0

    window_plain : Every (λ (i : Inst). is_phi i.op ≡ false) ws_old
    window_plain = subst (Every (λ (i : Inst). is_phi i.op ≡ false)) (sym head.2) (head_plain, every_left (λ (i : Inst). is_phi i.op ≡ false) head.1 (x ∷ zs) no_phis)

    members : (y : Id) (i : Inst) → find y ws_old ≡ Some i → Member (length c.globals) region lanes ws_old base i
    members y i e =
        let id : i.id ≡ y = same_is i.id y (find_id y ws_old i e) in
        let there = find_times y ws_old i e in
        record {
          finds = ap (λ v. find v ws_old) id ∙ e;
          read = ap (λ (v : Id). nat_eq v.region (suc region)) id ∙ old y there;
          moves = (every_find (λ (j : Inst). is_phi j.op ≡ false) y ws_old i window_plain e, every_find (λ (j : Inst). is_terminator j.op ≡ false) y ws_old i (every_right (λ (j : Inst). is_terminator j.op ≡ false) front ws_old no_ends) e);
          known = operands_known c block formed y i (window_block y i e);
        }

    -- ---- the order of the window

    window_few : (y : Id) → times y ws_old ≤ 1
    window_few y = let le = few_in y in let sum = times_append y front (ws_old ++ x ∷ zs) in let then = times_append y ws_old (x ∷ zs) in omega (arith, le, sum, then)

    are_bundles : AreBundles ws_old bundles
    are_bundles = record { members = λ y h. any_times y ws_old (lane_window y h); once = ok.once }

    pub ordered : (groups : List (List Inst)) × (order whole block last bundles ≡ Some groups)
    ordered = by_case ok.ordered (order whole block last bundles) refl
      where
        by_case : (bundles ≡ []) ⊎ (is_none (order whole block last bundles) ≡ false) → (o : Option (List (List Inst))) → order whole block last bundles ≡ o → (groups : List (List Inst)) × (order whole block last bundles ≡ Some groups)
        by_case p (Some groups) e = (groups, e)
        by_case (inl n) None e = absurd (true_false (sym (store_lane s first_in) ∙ ap (λ bs. is_id_in (joined bs) s) n))
        by_case (inr n) None e = absurd (true_false (sym (ap is_none e) ∙ n))

    -- ---- what is written

    abbrev groups : List (List Inst)
    groups = ordered.0

    order_is : order_in whole block ws_old bundles ≡ Some groups
    order_is = ap (λ w. order_in whole block w bundles) (sym cut_window) ∙ ordered.1

    reorder : (y : Id) → times y (joined groups) ≡ times y ws_old
    reorder y = reordered_times (Rattle.vx_view.specs.Conflicts.depends whole block) ws_old (joined groups) (orders_reordered whole block ws_old bundles (once_times ws_old window_few) are_bundles groups order_is) y

    standing : Every (Every (λ y. (i : Inst) × (find y ws_old ≡ Some i) × (is_id_in lanes y ≡ true))) bundles
    standing = every_joined (λ y. (i : Inst) × (find y ws_old ≡ Some i) × (is_id_in lanes y ≡ true)) bundles (λ y h. let f = find_some y ws_old (lane_window y h) in (f.0, f.1, h))

    first_of : (xs : List Id) → FirstSome (length c.globals) base whole block last (λ y. refl) (operands_known c block formed) 0 tree xs → HasFirst (length c.globals) region bundles ws_old base tree members 0 tree xs
    first_of [] h = tt
    first_of (y ∷ xs) h = h

    firsts_are : Every (HasFirst (length c.globals) region bundles ws_old base tree members 0 tree) bundles
    firsts_are = every_map (FirstSome (length c.globals) base whole block last (λ y. refl) (operands_known c block formed) 0 tree) (HasFirst (length c.globals) region bundles ws_old base tree members 0 tree) first_of bundles
        (firsts (length c.globals) base whole block last (λ y. refl) (operands_known c block formed) 0 tree ok.nodes)

    groups_ok : Every (IsGroup (length c.globals) region lanes ws_old base tree) groups
    groups_ok = order_groups (length c.globals) region bundles ws_old base tree members
        (λ y h. alone (length c.globals) base whole block last (λ z. refl) (operands_known c block formed) y 0 tree ok.nodes h)
        window_few whole block groups standing firsts_are order_is

    abbrev new : List Inst
    new = new_insts whole region tree groups

    abbrev gone : List Id
    gone = going (length block) whole lanes new block

    abbrev wanted : Id → Bool
    wanted = is_wanted whole lanes gone new

    abbrev rewritten_list : List Inst
    rewritten_list = (written whole wanted region tree groups start).insts

    writes : Writes (length c.globals) region lanes ws_old base start (written whole wanted region tree groups start) (joined groups)
    writes = written_is (length c.globals) region lanes ws_old base whole wanted tree
        (nodes_known (length c.globals) base whole block last (λ y. refl) (operands_known c block formed) tree ok.nodes) groups groups_ok start tt

    leaves_is : (y : Id) → is_id_in gone y ≡ true → Leaves whole lanes new block gone y
    leaves_is y h = going_leaves whole lanes new block few_in (length block) y h

    gone_block : (y : Id) → is_id_in gone y ≡ true → 1 ≤ times y block
    gone_block y h = let l = leaves_is y h in find_times y block l.inst l.stands

    -- ---- where the region creates nothing of what goes

    module _ (old_gone : (y : Id) → is_id_in gone y ≡ true → nat_eq y.region (suc region) ≡ false) where
      -- the new window
      abbrev ws : List Inst
      ws = without gone rewritten_list

      created_stays : (i : Inst) → is_created region i ≡ true → is_id_in gone i.id ≡ false
      created_stays i e = by_test (is_id_in gone i.id) refl
        where
          by_test : (b : Bool) → is_id_in gone i.id ≡ b → b ≡ false
          by_test true g = absurd (true_false (sym e ∙ old_gone i.id g))
          by_test false g = refl

      -- ---- the setting

      may_lane : (y : Id) → is_id_in lanes y ≡ true → MayGo block y
      may_lane y h = let l = lane_is y h in record { inst = l.inst; stands = l.stands; may = l.may }

      lanes_stay : (y : Id) → is_id_in lanes y ≡ true → is_id_in gone y ≡ false
      lanes_stay y h = by_test (is_id_in gone y) refl
        where
          by_test : (b : Bool) → is_id_in gone y ≡ b → b ≡ false
          by_test true g = absurd (true_false (sym h ∙ (leaves_is y g).other))
          by_test false g = refl

      unwanted_is : (y : Id) → is_id_in lanes y ≡ true → times y ws ≡ 0 → (users lanes gone (uses_of y (funcs_of whole.items)) ≡ true) × (uses_value y new ≡ false)
      unwanted_is y h z = unwanted whole lanes gone new y (by_test (wanted y) refl)
        where
          by_test : (b : Bool) → wanted y ≡ b → b ≡ false
          by_test true w =
              let same = kept_times gone y rewritten_list (lanes_stay y h) in
              let lane = lane_window y h in
              let again = reorder y in
              let some = written_wants (length c.globals) region lanes ws_old base whole wanted tree
              (nodes_known (length c.globals) base whole block last (λ v. refl) (operands_known c block formed) tree ok.nodes) groups groups_ok start tt y h w (omega (arith, lane, again)) in
              absurd (omega (arith, z, same, some))
          by_test false w = refl

      groups_read : Every (Every (λ (j : Inst). is_created region j ≡ false)) groups
      groups_read = every_map (IsGroup (length c.globals) region lanes ws_old base tree) (Every (λ (j : Inst). is_created region j ≡ false)) reads groups groups_ok
        where
          reads : (g : List Inst) → IsGroup (length c.globals) region lanes ws_old base tree g → Every (λ (j : Inst). is_created region j ≡ false) g
          reads [] h = tt
          reads (i ∷ is) h = every_map (Member (length c.globals) region lanes ws_old base) (λ (j : Inst). is_created region j ≡ false) (λ j k. k.read) (i ∷ is) h.0

      new_is : new ≡ only_created region rewritten_list
      new_is = (written_alike region whole (λ y. false) wanted tree groups groups_read start start (record { vectors = refl; next = refl; insts = refl })).insts

      setting : Setting (length c.globals) region base c front ws_old x zs lanes gone new ws
      setting = record {
        few = few;
        lane = λ y h. (lane_window y h, may_lane y h);
        goes = λ y h. let l = leaves_is y h in (record { inst = l.inst; stands = l.stands; may = l.may }, l.other, l.used, l.created);
        lanes_once = ok.once;
        gone_once = going_once whole lanes new block (length block) few_in;
        kinds = every_without (Kind (length c.globals) region lanes ws_old base) gone rewritten_list (subst (Every (Kind (length c.globals) region lanes ws_old base)) (sym writes.adds.are) writes.adds.kinds);
        unwritten = λ y h. gone_times gone y rewritten_list h;
        unwanted = unwanted_is;
        unused = λ y e. every_without (λ (i : Inst). is_created region i ≡ true → uses_id y i ≡ false) gone rewritten_list (unused_new region y rewritten_list (ap (uses_value y) (sym new_is) ∙ e));
        covers = λ y some lane going. let same = kept_times gone y rewritten_list going in let again = reorder y in
            let kept = writes.adds.keeps y (omega (arith, some, again)) lane in let whole_list = ap (times y) writes.adds.are in omega (arith, same, kept, whole_list);
        old = old;
        old_gone = old_gone;
      }

      -- ---- the changes, and where they lead

      abbrev plan : Plan
      plan = plan_of whole region block tree lanes groups

      abbrev stepped : List Change
      stepped = steps region lanes x.id ws

      lane_stands : (y : Id) → is_id_in lanes y ≡ true → (i : Inst) × (find y ws_old ≡ Some i)
      lane_stands y h = find_some y ws_old (lane_window y h)

      ws_few : (y : Id) → nat_eq y.region (suc region) ≡ false → times y ws ≤ 1
      ws_few y o =
          let less = fewer_times gone y rewritten_list in
          let all = written_times region y o whole wanted tree groups start in
          let again = reorder y in
          let le = window_few y in
          omega (arith, less, all, again, le)

      leads_there : all_applied stepped whole ≡ plug c (after (length c.globals) region base c front ws_old x zs lanes gone new ws setting)
      leads_there =
          window_leads (length c.globals) region lanes c front x zs plain_x refl ws ws_old [] x_old
          (λ y o. let le = few y in let sum = numbers (length c.globals) region lanes c front x zs plain_x refl ws_old [] y in let ids = ids_plug c block y in omega (arith, le, sum, ids))
          (along_kinds (length c.globals) region lanes ws_old base c front x zs plain_x refl lane_stands ws ws_old setting.kinds ws_few (λ y o some. refl))
          ∙ ap (λ l. plug c (front ++ (l ++ (ws ++ x ∷ zs)))) (left_is (length c.globals) region lanes ws ws_old)

      abbrev goers : List Id
      goers = not_among (ids_of ws) lanes ++ gone

      abbrev made_changes : List Change
      made_changes = stepped ++ removals (length goers) (all_applied stepped whole) goers

      abbrev result : List Inst
      result = without gone front ++ (ws ++ without gone (x ∷ zs))

      -- ---- as the definitions say it

      found_s : found whole s ≡ Some (record { place = place_of c; block = block; inst = store })
      found_s = found_plug c block s store finds (let le = few s in let some = find_times s block store finds in omega (arith, le, some))

      block_is : block_of (found whole s) ≡ block
      block_is = ap block_of found_s

      plan_is : plan_of whole region block tree (joined_ids bundles) groups ≡ plan
      plan_is = ap (λ ls. plan_of whole region block tree ls groups) (joined_is bundles)

      next_x : next_after last block ≡ Some x.id
      next_x = next_is last block ∙ ap id_of cut_after

      changes_are : changes whole region (s ∷ stores) ≡ Some made_changes
      changes_are =
          ap (λ b. changes_of whole region b (last_in (s ∷ stores) s b) (tree_in whole b (last_in (s ∷ stores) s b) (s ∷ stores)) (bundles_of b (tree_in whole b (last_in (s ∷ stores) s b) (s ∷ stores)))) block_is
          ∙ ap (option_map (λ gs. changes_in whole region block last (plan_of whole region block tree (joined_ids bundles) gs))) ordered.1
          ∙ ap (λ p. Some (changes_in whole region block last p)) plan_is
          ∙ ap (λ o. Some (before_next whole region plan o)) next_x

      rewritten_is : rewritten whole region (s ∷ stores) ≡ Some result
      rewritten_is =
          ap (λ b. rewritten_in whole region b (last_in (s ∷ stores) s b) (tree_in whole b (last_in (s ∷ stores) s b) (s ∷ stores)) (bundles_of b (tree_in whole b (last_in (s ∷ stores) s b) (s ∷ stores)))) block_is
          ∙ ap (option_map (λ gs. rewritten_by whole region block bundles last (plan_of whole region block tree (joined_ids bundles) gs))) ordered.1
          ∙ ap (λ p. Some (rewritten_by whole region block bundles last p)) plan_is
          ∙ ap (λ f. Some (without gone (f ++ (rewritten_list ++ after_inst last block)))) cut_front
          ∙ ap (λ a. Some (without gone (front ++ (rewritten_list ++ a)))) cut_after
          ∙ ap Some (without_append gone front (rewritten_list ++ x ∷ zs) ∙ ap (λ u. without gone front ++ u) (without_append gone rewritten_list (x ∷ zs)))

      -- ---- what is removed, told on lists

      abbrev turned : List Change
      turned = stepped ++ map Remove (removal_order (length goers) (among goers block) goers)

      turned_are : made_changes ≡ turned
      turned_are = ap (λ r. stepped ++ r) (
          ap (λ m. removals (length goers) m goers) leads_there
          ∙ removed_in_turn c (length goers) goers (after (length c.globals) region base c front ws_old x zs lanes gone new ws setting) (closing (length c.globals) region base c front ws_old x zs lanes gone new ws setting)
          ∙ ap (λ is. map Remove (removal_order (length goers) is goers)) (among_after (length c.globals) region base c front ws_old x zs lanes gone new ws setting))

      in_turn_are : changes_in_turn whole region (s ∷ stores) ≡ Some turned
      in_turn_are =
          ap (λ b. in_turn.changes_of whole region b (last_in (s ∷ stores) s b) (tree_in whole b (last_in (s ∷ stores) s b) (s ∷ stores)) (bundles_of b (tree_in whole b (last_in (s ∷ stores) s b) (s ∷ stores)))) block_is
          ∙ ap (option_map (λ gs. in_turn.changes_in whole region block last (plan_of whole region block tree (joined_ids bundles) gs))) ordered.1
          ∙ ap (λ p. Some (in_turn.changes_in whole region block last p)) plan_is
          ∙ ap (λ o. Some (in_turn.before_next whole region block plan o)) next_x

      pub turned_law : changes whole region (s ∷ stores) ≡ changes_in_turn whole region (s ∷ stores)
      turned_law = changes_are ∙ ap Some turned_are ∙ sym in_turn_are

      -- ---- where the region's ids are new and a walk comes to the block, they fit

      module _ (fresh : IsFresh whole region) (reached : IsReached (graph_of (func_in c block)) (length c.blocks_before)) where
        ready : Ready (length c.globals) region lanes ws_old base base 0
        ready = record {
          were = λ y h. h;
          are = λ k less. absurd (omega (arith, less));
          free = λ k le. fresh_times region k (module_ids whole) (every_of_all (λ (id : Id). id.region ≤ region) (module_ids whole) fresh);
        }

        takes : Takes (length c.globals) region lanes ws_old base (λ y. 0) rewritten_list
        takes =
            subst (Takes (length c.globals) region lanes ws_old base (λ y. 0)) (append_none writes.adds.new ∙ sym writes.adds.are)
            (writes.adds.takes base (λ y. 0) ready (λ y. let same = reorder y in let le = window_few y in omega (arith, same, le)) [] (λ known now r fewer. tt))

        fine : Fine (length c.globals) region lanes base ws_old ws
        fine = takes_fine (length c.globals) region lanes ws_old ws ws_old base (λ y. 0) (λ y z. refl)
            (takes_without (length c.globals) region lanes ws_old gone created_stays rewritten_list base (λ y. 0) (λ y. 0) (λ y. omega (arith)) takes)

        led : (all_applied stepped whole ≡ plug c (after (length c.globals) region base c front ws_old x zs lanes gone new ws setting)) × AllFit stepped whole
        led =
            let w = window_is (length c.globals) region lanes c front x zs plain_x refl ws ws_old [] base
            (λ y. sym (numbers (length c.globals) region lanes c front x zs plain_x refl ws_old [] y)) (λ y. let le = few y in let ids = ids_plug c block y in omega (arith, le, ids)) fine in
            (w.0 ∙ ap (λ l. plug c (front ++ (l ++ (ws ++ x ∷ zs)))) (left_is (length c.globals) region lanes ws ws_old), w.1)

        gone_all : Goes c goers (after (length c.globals) region base c front ws_old x zs lanes gone new ws setting) (length goers)
        gone_all = all_go c (length goers) goers (after (length c.globals) region base c front ws_old x zs lanes gone new ws setting) refl (going_facts (length c.globals) region base c front ws_old x zs lanes gone new ws setting (λ f rest i v e p u a. stands_earlier c block formed reached f rest i v e p u a))

        made_lead : (all_applied made_changes whole ≡ plug c result) × AllFit made_changes whole
        made_lead = (
          applied_append stepped (removals (length goers) (all_applied stepped whole) goers) whole
              ∙ ap (λ m. all_applied (removals (length goers) m goers) m) led.0
              ∙ gone_all.0 ∙ ap (plug c) (leaves (length c.globals) region base c front ws_old x zs lanes gone new ws setting),
          fit_append stepped (removals (length goers) (all_applied stepped whole) goers) whole led.1
              (subst (λ m. AllFit (removals (length goers) m goers) m) (sym led.0) gone_all.1),
        )

        pub law : Leads whole region (s ∷ stores)
        law = record {
          list = made_changes;
          are = changes_are;
          fit = made_lead.1;
          there =
              ap (option_map (λ insts. with_insts s insts whole)) rewritten_is
              ∙ ap Some (with_insts_plug c block result s (let le = few s in let some = find_times s block store finds in omega (arith, le, some)) (defines_found s block store finds) ∙ sym made_lead.0);
        }

-- ---- the law, on any block

module _ (c : Context) (block : List Inst) (region : ℕ) (s : Id) (stores : List Id) (formed : IsFormed (plug c block))
    (store : Inst) (finds : find s block ≡ Some store) (each : Every (λ y. 1 ≤ times y block) (s ∷ stores))
    (root : is_root_widened (tree_in (plug c block) block (last_in (s ∷ stores) s block) (s ∷ stores)) ≡ true) where
  abbrev last_store : Id
  last_store = last_in (s ∷ stores) s block

  abbrev all_bundles : List (List Id)
  all_bundles = bundles_of block (tree_in (plug c block) block last_store (s ∷ stores))

  last_in_stores : is_id_in (s ∷ stores) last_store ≡ true
  last_in_stores = last_among (s ∷ stores) s block (of_stores.first_in c block s stores formed each root)

  pub last_inst : (i : Inst) × (find last_store block ≡ Some i) × Removable i
  last_inst = of_stores.store_of c block s stores formed each root (s ∷ stores) (of_stores.root_lanes c block s stores formed each root) last_store last_in_stores

  pub parts : FoundParts last_store block last_inst.0
  parts = found_parts last_store block last_inst.0 last_inst.1

  -- a store ends no block
  pub something : (y : Inst) × (more : List Inst) × (parts.rest ≡ y ∷ more)
  something = ends_after parts.front last_inst.0 parts.rest (subst Rattle.ir_types.specs.Formed.EndsOnce parts.are (block_formed c block formed).ends) last_inst.2.2

  next_are : after_inst last_store block ≡ something.0 ∷ something.1
  next_are = parts.next ∙ something.2

  cut : before_member all_bundles block ++ (window block last_store all_bundles ++ something.0 ∷ something.1) ≡ block
  cut =
      ap (λ a. before_member all_bundles block ++ (window block last_store all_bundles ++ a)) (sym next_are)
      ∙ block_cut all_bundles last_store block
      (has_of all_bundles last_store (up_to last_store block) (up_to_has last_store block (find_times last_store block last_inst.0 last_inst.1))
      (member_joined all_bundles last_store ∙ of_stores.store_lane c block s stores formed each root last_store last_in_stores))

  abbrev tree_on : List Inst → List Node
  tree_on l = tree_in (plug c l) l (last_in (s ∷ stores) s l) (s ∷ stores)

  abbrev OldGone : List Inst → Type 0
  OldGone l =
      (groups : List (List Inst)) → order (plug c l) l (last_in (s ∷ stores) s l) (bundles_of l (tree_on l)) ≡ Some groups →
      (y : Id) → is_id_in (plan_of (plug c l) region l (tree_on l) (joined_ids (bundles_of l (tree_on l))) groups).gone y ≡ true → nat_eq y.region (suc region) ≡ false

  -- what holds of a list that is the block
  abbrev CutAs : (List Inst → Type 0) → List Inst → Type 0
  CutAs Result l =
      IsFormed (plug c l) → find s l ≡ Some store → Every (λ y. 1 ≤ times y l) (s ∷ stores) → is_root_widened (tree_on l) ≡ true →
      before_member (bundles_of l (tree_on l)) l ≡ before_member all_bundles block →
      window l (last_in (s ∷ stores) s l) (bundles_of l (tree_on l)) ≡ window block last_store all_bundles →
      after_inst (last_in (s ∷ stores) s l) l ≡ something.0 ∷ something.1 → OldGone l → Result l

  abbrev Turned : List Inst → Type 0
  Turned l = changes (plug c l) region (s ∷ stores) ≡ changes_in_turn (plug c l) region (s ∷ stores)

  abbrev Leading : List Inst → Type 0
  Leading l = IsFresh (plug c l) region → IsReached (graph_of (func_in c l)) (length c.blocks_before) → Leads (plug c l) region (s ∷ stores)

  module _ (old_window : (y : Id) → 1 ≤ times y (window block last_store all_bundles) → nat_eq y.region (suc region) ≡ false) (old_next : nat_eq something.0.id.region (suc region) ≡ false) (old_gone : OldGone block) where
    -- what goes, with all bundles joined
    gone_old : (l : List Inst) (groups : List (List Inst)) → order (plug c l) l (last_in (s ∷ stores) s l) (bundles_of l (tree_on l)) ≡ Some groups → OldGone l →
        (y : Id) → is_id_in (going (length l) (plug c l) (joined (bundles_of l (tree_on l))) (new_insts (plug c l) region (tree_on l) groups) l) y ≡ true → nat_eq y.region (suc region) ≡ false
    gone_old l groups e g y h =
        g groups e y (ap (λ ls. is_id_in (plan_of (plug c l) region l (tree_on l) ls groups).gone y) (joined_is (bundles_of l (tree_on l))) ∙ h)

    pub turned_of_block : Turned block
    turned_of_block =
        subst (CutAs Turned) cut
        (λ f e a t b v n g. turned_law c (before_member all_bundles block) (window block last_store all_bundles) something.0 something.1 region s stores f old_window old_next store e a t b v n
        (gone_old (before_member all_bundles block ++ (window block last_store all_bundles ++ something.0 ∷ something.1))
        (ordered c (before_member all_bundles block) (window block last_store all_bundles) something.0 something.1 region s stores f old_window old_next store e a t b v n).0
        (ordered c (before_member all_bundles block) (window block last_store all_bundles) something.0 something.1 region s stores f old_window old_next store e a t b v n).1 g))
        formed finds each root refl refl next_are old_gone

    pub law_of_block : Leading block
    law_of_block =
        subst (CutAs Leading) cut
        (λ f e a t b v n g. law c (before_member all_bundles block) (window block last_store all_bundles) something.0 something.1 region s stores f old_window old_next store e a t b v n
        (gone_old (before_member all_bundles block ++ (window block last_store all_bundles ++ something.0 ∷ something.1))
        (ordered c (before_member all_bundles block) (window block last_store all_bundles) something.0 something.1 region s stores f old_window old_next store e a t b v n).0
        (ordered c (before_member all_bundles block) (window block last_store all_bundles) something.0 something.1 region s stores f old_window old_next store e a t b v n).1 g))
        formed finds each root refl refl next_are old_gone

-- ---- a widened root has instructions of the block

there_each : (block : List Inst) (xs : List Id) → list_all (λ o. is_there (inst_of block o)) (values_of xs) ≡ true → Every (λ y. 1 ≤ times y block) xs
there_each block [] h = tt
there_each block (y ∷ xs) h = by_find (find y block) refl h (there_each block xs)
  where
    by_find : (o : Option Inst) → find y block ≡ o → (is_there o && list_all (λ u. is_there (inst_of block u)) (values_of xs)) ≡ true →
        (list_all (λ u. is_there (inst_of block u)) (values_of xs) ≡ true → Every (λ z. 1 ≤ times z block) xs) → (1 ≤ times y block) × Every (λ z. 1 ≤ times z block) xs
    by_find None e r more = absurd cc
    by_find (Some i) e r more = (find_times y block i e, more (and_right (is_there (Some i)) (list_all (λ u. is_there (inst_of block u)) (values_of xs)) r))

root_each : (m : Module) (block : List Inst) (last : Id) (xs : List Id) → is_root_widened (tree_in m block last xs) ≡ true → Every (λ y. 1 ≤ times y block) xs
root_each m block last xs w = by_reuse (reused 0 (values_of xs) []) (identity m block (values_of xs)) (first_cause (causes m block last [] (values_of xs) (insts_of block (values_of xs)))) refl w
  where
    by_reuse : (r : Option ℕ) (i : Option Id) (c : Option Cause) → first_cause (causes m block last [] (values_of xs) (insts_of block (values_of xs))) ≡ c →
        is_root_widened (visited (visit (length block) m block last) (slots_from 0 (slot_count (insts_of block (values_of xs))) (insts_of block (values_of xs))) [] (values_of xs)
        (or_else (option_map Reuse r) (or_else (option_map Ident i) (packed c)))) ≡ true → Every (λ y. 1 ≤ times y block) xs
    by_reuse (Some n) i c e h = absurd cc
    by_reuse None (Some v) c e h = absurd cc
    by_reuse None None (Some d) e h = absurd cc
    by_reuse None None None e h =
        let all = causes_none (causes m block last [] (values_of xs) (insts_of block (values_of xs))) e in
        there_each block xs (false_of_not (list_all (λ o. is_there (inst_of block o)) (values_of xs)) all.1.0)

-- ---- the laws

root_of : (c : Context) (block : List Inst) (s : Id) (stores : List Id) → IsFormed (plug c block) → (store : Inst) → find s block ≡ Some store → is_root_widened (tree_of (plug c block) (s ∷ stores)) ≡ true →
    is_root_widened (tree_in (plug c block) block (last_in (s ∷ stores) s block) (s ∷ stores)) ≡ true
root_of c block s stores f store finds w =
    let le = times_few c block f s in
    let some = find_times s block store finds in
    subst (λ b. is_root_widened (tree_in (plug c block) b (last_in (s ∷ stores) s b) (s ∷ stores)) ≡ true)
    (ap block_of (found_plug c block s store finds (omega (arith, le, some)))) w

-- no id of a fresh module is created
fresh_old : (c : Context) (block : List Inst) (region : ℕ) → IsFresh (plug c block) region → (y : Id) → 1 ≤ times y block → nat_eq y.region (suc region) ≡ false
fresh_old c block region fresh y some =
    let ids = ids_plug c block y in
    let le = old_region region y (module_ids (plug c block)) (every_of_all (λ (id : Id). id.region ≤ region) (module_ids (plug c block)) fresh) (omega (arith, ids, some)) in
    grind (arith, nat_tests)

pub changes_do_lead : ChangesLead
changes_do_lead m region [] formed fresh lawful widened = absurd cc
changes_do_lead m region (s ∷ stores) formed fresh lawful widened =
    let h = here_of m s stores formed lawful in
    subst (λ n. IsFormed n → IsFresh n region → is_root_widened (tree_of n (s ∷ stores)) ≡ true → Leads n region (s ∷ stores)) h.whole
    (λ f r w. in_context h.context h.insts f r h.store h.finds h.each (root_of h.context h.insts s stores f h.store h.finds w) h.reached)
    formed fresh widened
  where
    in_context : (c : Context) (block : List Inst) (f : IsFormed (plug c block)) → IsFresh (plug c block) region → (store : Inst) (finds : find s block ≡ Some store) (each : Every (λ y. 1 ≤ times y block) (s ∷ stores)) →
        (root : is_root_widened (tree_in (plug c block) block (last_in (s ∷ stores) s block) (s ∷ stores)) ≡ true) → IsReached (graph_of (func_in c block)) (length c.blocks_before) → Leads (plug c block) region (s ∷ stores)
    in_context c block f r store finds each root reached =
        law_of_block c block region s stores f store finds each root
        (λ y some. old y (let parts = in_cut y in omega (arith, parts, some)))
        (old (something c block region s stores f store finds each root).0.id (
        let parts = in_cut (something c block region s stores f store finds each root).0.id in
        let one : one_of (something c block region s stores f store finds each root).0.id (something c block region s stores f store finds each root).0.id ≡ 1 = ap (λ b. cond b 1 0) (same_itself (something c block region s stores f store finds each root).0.id) in
        omega (arith, parts, one)))
        (λ groups e y g. old y (let l = gone_stands y groups g in find_times y block l.inst l.stands))
        r reached
      where
        old : (y : Id) → 1 ≤ times y block → nat_eq y.region (suc region) ≡ false
        old = fresh_old c block region r

        in_cut : (y : Id) →
            times y block ≡ times y (before_member (bundles_of block (tree_in (plug c block) block (last_in (s ∷ stores) s block) (s ∷ stores))) block)
            + (times y (window block (last_in (s ∷ stores) s block) (bundles_of block (tree_in (plug c block) block (last_in (s ∷ stores) s block) (s ∷ stores))))
            + (one_of (something c block region s stores f store finds each root).0.id y + times y (something c block region s stores f store finds each root).1))
        in_cut y =
            ap (times y) (sym (cut c block region s stores f store finds each root))
            ∙ times_append y (before_member (bundles_of block (tree_in (plug c block) block (last_in (s ∷ stores) s block) (s ∷ stores))) block)
            (window block (last_in (s ∷ stores) s block) (bundles_of block (tree_in (plug c block) block (last_in (s ∷ stores) s block) (s ∷ stores)))
            ++ (something c block region s stores f store finds each root).0 ∷ (something c block region s stores f store finds each root).1)
            ∙ ap (λ n. times y (before_member (bundles_of block (tree_in (plug c block) block (last_in (s ∷ stores) s block) (s ∷ stores))) block) + n)
            (times_append y (window block (last_in (s ∷ stores) s block) (bundles_of block (tree_in (plug c block) block (last_in (s ∷ stores) s block) (s ∷ stores))))
            ((something c block region s stores f store finds each root).0 ∷ (something c block region s stores f store finds each root).1))

        gone_stands : (y : Id) (groups : List (List Inst)) →
            is_id_in (plan_of (plug c block) region block (tree_in (plug c block) block (last_in (s ∷ stores) s block) (s ∷ stores)) (joined_ids (bundles_of block (tree_in (plug c block) block (last_in (s ∷ stores) s block) (s ∷ stores)))) groups).gone y ≡ true →
            Leaves (plug c block) (joined_ids (bundles_of block (tree_in (plug c block) block (last_in (s ∷ stores) s block) (s ∷ stores))))
            (new_insts (plug c block) region (tree_in (plug c block) block (last_in (s ∷ stores) s block) (s ∷ stores)) groups) block
            (plan_of (plug c block) region block (tree_in (plug c block) block (last_in (s ∷ stores) s block) (s ∷ stores)) (joined_ids (bundles_of block (tree_in (plug c block) block (last_in (s ∷ stores) s block) (s ∷ stores)))) groups).gone y
        gone_stands y groups g =
            going_leaves (plug c block) (joined_ids (bundles_of block (tree_in (plug c block) block (last_in (s ∷ stores) s block) (s ∷ stores))))
            (new_insts (plug c block) region (tree_in (plug c block) block (last_in (s ∷ stores) s block) (s ∷ stores)) groups) block
            (λ z. let le = times_few c block f z in omega (arith, le)) (length block) y g

pub changes_go_in_turn : RemovedInTurn
changes_go_in_turn m region x stores s formed found_is own widened =
    let at = split_found m x s found_is in
    subst
    (λ n. IsFormed n → found n x ≡ Some s → IsOwn n region s.block (last_in (x ∷ stores) x s.block) (tree_of n (x ∷ stores)) → is_root_widened (tree_of n (x ∷ stores)) ≡ true →
    changes n region (x ∷ stores) ≡ changes_in_turn n region (x ∷ stores))
    at.whole
    (λ f e o w. in_context at.context f at.finds
    (subst (λ b. IsOwn (plug at.context s.block) region s.block (last_in (x ∷ stores) x s.block) (tree_in (plug at.context s.block) b (last_in (x ∷ stores) x b) (x ∷ stores))) (ap block_of e) o)
    (root_of at.context s.block x stores f s.inst at.finds w))
    formed found_is own widened
  where
    in_context : (c : Context) (f : IsFormed (plug c s.block)) (finds : find x s.block ≡ Some s.inst) →
        IsOwn (plug c s.block) region s.block (last_in (x ∷ stores) x s.block) (tree_in (plug c s.block) s.block (last_in (x ∷ stores) x s.block) (x ∷ stores)) →
        (root : is_root_widened (tree_in (plug c s.block) s.block (last_in (x ∷ stores) x s.block) (x ∷ stores)) ≡ true) →
        changes (plug c s.block) region (x ∷ stores) ≡ changes_in_turn (plug c s.block) region (x ∷ stores)
    in_context c f finds o root =
        turned_of_block c s.block region x stores f s.inst finds each root
        (λ y some. o.window y (times_any y (window s.block (last_in (x ∷ stores) x s.block) (bundles_of s.block (tree_in (plug c s.block) s.block (last_in (x ∷ stores) x s.block) (x ∷ stores)))) some))
        (o.next (something c s.block region x stores f s.inst finds each root).0.id
        (next_is (last_in (x ∷ stores) x s.block) s.block ∙ ap id_of (next_are c s.block region x stores f s.inst finds each root)))
        o.gone
      where
        each : Every (λ y. 1 ≤ times y s.block) (x ∷ stores)
        each = root_each (plug c s.block) s.block (last_in (x ∷ stores) x s.block) (x ∷ stores) root

        times_any : (y : Id) (l : List Inst) → 1 ≤ times y l → is_id_in (ids_of l) y ≡ true
        times_any y l some = any_times y l some
