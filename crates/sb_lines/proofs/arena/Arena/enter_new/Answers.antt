-- One more node, and an id that names it.
use Rattle.std.proofs.Common.{rules, ◌≡◌, refl, ap, ◌∙◌, Some, cond, length}
use Rattle.ir_types.specs.declared.id.Id.{Id}
use Rattle.ir_types.specs.Available.{same_id}
use Rattle.sb_lines.specs.declared.arena.Arena.{Arena}
use Rattle.sb_lines.specs.Nodes.{held}
use Rattle.sb_lines.specs.Arena.{node}
use Rattle.sb_lines.specs.Steps.{IsKept}
use Rattle.sb_lines.proofs.Writes.{more, new-law}
use Rattle.sb_lines.proofs.arena.Arena.enter_new.Goals as goal

pub returns-clause-rings : goal.returns-clause-rings
returns-clause-rings c =
    let len : c.len-at.result ≡ length c.args.self.now.nodes.items = search (rules) in
    let t : Arena = record { frame = c.args.self.now.frame; funcs = c.args.self.now.funcs; params = c.args.self.now.params; nodes = c.push_gone.new.nodes; marks = c.args.self.now.marks; table = c.note.new.table } in
    let kept : IsKept c.args.self.now t = record { same = record { frame = refl; funcs = refl; params = refl; marks = refl }; held_is = c.push_gone.ensures.held; next_is = c.push_gone.ensures.next; prev_is = c.push_gone.ensures.prev; length_is = more c.push_gone.ensures.length } in
    let is : (x : Id) → node t x ≡ cond (same_id c.args.id x) (Some (length c.args.self.now.nodes.items)) (node c.args.self.now x) = λ x. c.note.ensures.now x ∙ ap (λ k. cond (same_id c.args.id x) (Some k) (node c.args.self.now x)) len in
    (new-law c.args.self.now t c.args.id c.requires.rings kept c.requires.none c.push_gone.ensures.length is).rings

pub returns-clause-contents : goal.returns-clause-contents
returns-clause-contents c =
    let len : c.len-at.result ≡ length c.args.self.now.nodes.items = search (rules) in
    let t : Arena = record { frame = c.args.self.now.frame; funcs = c.args.self.now.funcs; params = c.args.self.now.params; nodes = c.push_gone.new.nodes; marks = c.args.self.now.marks; table = c.note.new.table } in
    let kept : IsKept c.args.self.now t = record { same = record { frame = refl; funcs = refl; params = refl; marks = refl }; held_is = c.push_gone.ensures.held; next_is = c.push_gone.ensures.next; prev_is = c.push_gone.ensures.prev; length_is = more c.push_gone.ensures.length } in
    let is : (x : Id) → node t x ≡ cond (same_id c.args.id x) (Some (length c.args.self.now.nodes.items)) (node c.args.self.now x) = λ x. c.note.ensures.now x ∙ ap (λ k. cond (same_id c.args.id x) (Some k) (node c.args.self.now x)) len in
    (new-law c.args.self.now t c.args.id c.requires.rings kept c.requires.none c.push_gone.ensures.length is).contents_is

pub returns-clause-gone : goal.returns-clause-gone
returns-clause-gone c =
    let len : c.len-at.result ≡ length c.args.self.now.nodes.items = search (rules) in
    let t : Arena = record { frame = c.args.self.now.frame; funcs = c.args.self.now.funcs; params = c.args.self.now.params; nodes = c.push_gone.new.nodes; marks = c.args.self.now.marks; table = c.note.new.table } in
    let kept : IsKept c.args.self.now t = record { same = record { frame = refl; funcs = refl; params = refl; marks = refl }; held_is = c.push_gone.ensures.held; next_is = c.push_gone.ensures.next; prev_is = c.push_gone.ensures.prev; length_is = more c.push_gone.ensures.length } in
    let is : (x : Id) → node t x ≡ cond (same_id c.args.id x) (Some (length c.args.self.now.nodes.items)) (node c.args.self.now x) = λ x. c.note.ensures.now x ∙ ap (λ k. cond (same_id c.args.id x) (Some k) (node c.args.self.now x)) len in
    ap (held c.push_gone.new.nodes.items) len ∙ (new-law c.args.self.now t c.args.id c.requires.rings kept c.requires.none c.push_gone.ensures.length is).gone

pub returns-clause-standing : goal.returns-clause-standing
returns-clause-standing c =
    let len : c.len-at.result ≡ length c.args.self.now.nodes.items = search (rules) in
    let t : Arena = record { frame = c.args.self.now.frame; funcs = c.args.self.now.funcs; params = c.args.self.now.params; nodes = c.push_gone.new.nodes; marks = c.args.self.now.marks; table = c.note.new.table } in
    let kept : IsKept c.args.self.now t = record { same = record { frame = refl; funcs = refl; params = refl; marks = refl }; held_is = c.push_gone.ensures.held; next_is = c.push_gone.ensures.next; prev_is = c.push_gone.ensures.prev; length_is = more c.push_gone.ensures.length } in
    let is : (x : Id) → node t x ≡ cond (same_id c.args.id x) (Some (length c.args.self.now.nodes.items)) (node c.args.self.now x) = λ x. c.note.ensures.now x ∙ ap (λ k. cond (same_id c.args.id x) (Some k) (node c.args.self.now x)) len in
    (new-law c.args.self.now t c.args.id c.requires.rings kept c.requires.none c.push_gone.ensures.length is).standing_is

pub returns-clause-keeps : goal.returns-clause-keeps
returns-clause-keeps c =
    let len : c.len-at.result ≡ length c.args.self.now.nodes.items = search (rules) in
    let t : Arena = record { frame = c.args.self.now.frame; funcs = c.args.self.now.funcs; params = c.args.self.now.params; nodes = c.push_gone.new.nodes; marks = c.args.self.now.marks; table = c.note.new.table } in
    let kept : IsKept c.args.self.now t = record { same = record { frame = refl; funcs = refl; params = refl; marks = refl }; held_is = c.push_gone.ensures.held; next_is = c.push_gone.ensures.next; prev_is = c.push_gone.ensures.prev; length_is = more c.push_gone.ensures.length } in
    let is : (x : Id) → node t x ≡ cond (same_id c.args.id x) (Some (length c.args.self.now.nodes.items)) (node c.args.self.now x) = λ x. c.note.ensures.now x ∙ ap (λ k. cond (same_id c.args.id x) (Some k) (node c.args.self.now x)) len in
    (new-law c.args.self.now t c.args.id c.requires.rings kept c.requires.none c.push_gone.ensures.length is).keeps
