-- What is new has no use, so each instruction's slots are lacked when it comes.
use Rattle.std.proofs.Common.{◌≡◌, ◌∙◌, sym, ap, subst, List}
use Rattle.std.proofs.Math.Path.{fun_ext}
use Rattle.ir_types.specs.declared.module.Item.{Item}
use Rattle.vx_view.specs.Answers.{funcs_of}
use Rattle.sb_uses.specs.Stock.{Stock, stock}
use Rattle.sb_uses.specs.Lifting.{funcs_added, CanAddFuncs, nothing}
use Rattle.sb_uses.proofs.Stocks.{stock-is}
use Rattle.sb_uses.proofs.AsRead.{lists_read, kept_read, can_read}
use Rattle.sb_uses.proofs.slots.Slots.lift.Goals as goal

pub lift_items-requires : goal.lift_items-requires
lift_items-requires c =
    subst (λ (l : List Item). CanAddFuncs (funcs_of l) (stock c.new-slots.result)) (sym c.as_slice.ensures)
    (can_read c.args.read.now (stock c.new-slots.result) c.new-slots.ensures.lists c.requires)

pub returns-clause-lists : goal.returns-clause-lists
returns-clause-lists c =
    let new : stock c.new-slots.result ≡ nothing = stock-is (fun_ext c.new-slots.ensures.lists) c.new-slots.ensures.kept in
    ap (λ (s : Stock). s.lists) c.in_ok-lift_items.ensures.now
    ∙ ap (λ (l : List Item). (funcs_added (funcs_of l) (stock c.new-slots.result)).lists) c.as_slice.ensures
    ∙ ap (λ (s : Stock). (funcs_added (funcs_of c.args.read.now.items) s).lists) new
    ∙ lists_read c.args.read.now

pub returns-clause-kept : goal.returns-clause-kept
returns-clause-kept c =
    ap (λ (s : Stock). s.kept) c.in_ok-lift_items.ensures.now ∙ kept_read (funcs_of c.as_slice.result.now) (stock c.new-slots.result) ∙ c.new-slots.ensures.kept
