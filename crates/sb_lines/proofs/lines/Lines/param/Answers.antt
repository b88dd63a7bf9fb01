-- What is kept is what the functions have.
use Rattle.std.proofs.Common.{rules, ◌≡◌, sym, ap, ◌∙◌, option_map}
use Rattle.ir_types.specs.IdTable.{found as item_of}
use Rattle.vx_view.specs.Answers.{funcs_of, param_of}
use Rattle.sb_lines.specs.declared.arena.Arena.{Arena}
use Rattle.sb_lines.specs.Params.{spot_from, spot_told, param_told}
use Rattle.sb_lines.specs.Arena.{contents, seen}
use Rattle.sb_lines.proofs.Filled.{spot-filled}
use Rattle.sb_lines.proofs.Kept.{kept-first, told-first}
use Rattle.sb_lines.proofs.lines.Lines.param.Goals as goal

pub returns-clause-spot : goal.returns-clause-spot
returns-clause-spot c =
    let got : c.copied.result ≡ item_of c.self.inside.arena.params c.args.id = search (rules) in
    got ∙ kept-first c.args.id (item_of c.self.inside.arena.params c.args.id) (funcs_of c.self.inside.arena.frame.items) (c.self.invariant.params c.args.id)
    ∙ sym (spot-filled (λ q insts. contents c.self.inside.arena q) c.self.inside.arena.frame c.args.id)
    ∙ ap (λ (s : Arena). spot_from c.args.id 0 (funcs_of (seen s).items)) c.self.view_is

pub returns-clause-param : goal.returns-clause-param
returns-clause-param c =
    let got : c.copied.result ≡ item_of c.self.inside.arena.params c.args.id = search (rules) in
    ap (option_map spot_told) (got ∙ kept-first c.args.id (item_of c.self.inside.arena.params c.args.id) (funcs_of c.self.inside.arena.frame.items) (c.self.invariant.params c.args.id)
    ∙ sym (spot-filled (λ q insts. contents c.self.inside.arena q) c.self.inside.arena.frame c.args.id))
    ∙ told-first c.args.id 0 (funcs_of (seen c.self.inside.arena).items)
    ∙ ap (λ (s : Arena). option_map param_told (param_of c.args.id (funcs_of (seen s).items))) c.self.view_is
