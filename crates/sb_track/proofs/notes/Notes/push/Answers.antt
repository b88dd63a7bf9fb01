-- A question that is put at the end is put into the index.
use Rattle.std.proofs.Common.{rules, ◌≡◌, ◌∙◌, sym, ap, subst, List, [], ◌∷◌, ◌++◌, true, cond}
use Rattle.vx_view.specs.declared.read.Read.{Read}
use Rattle.sb_track.specs.contracts.notes.AskedPartialEq.TheImpl.{eq-value}
use Rattle.sb_track.specs.declared.notes.Asked.{Asked}
use Rattle.sb_track.specs.Indexing.{IsIndex}
use Rattle.sb_track.proofs.Indices.{has_key, index_more, index_same}
use Rattle.sb_track.proofs.notes.Notes.push.Goals as goal

pub invariant_of-self-in_err-push : goal.invariant_of-self-in_err-push
invariant_of-self-in_err-push c =
    let same : c.push.new.self ≡ c.self.inside.reads = search rules in
    subst (λ (reads : List Read). IsIndex c.reserve.new.self.keys reads) (sym same)
    (index_same c.self.inside.index.keys c.reserve.new.self.keys c.self.inside.reads c.self.invariant (λ k. c.reserve.ensures.keys.2 k))

pub invariant_of-self-2 : goal.invariant_of-self-2
invariant_of-self-2 c =
    let more : c.push.new.self ≡ c.self.inside.reads ++ c.args.read ∷ [] = search rules in
    let updates : (k : Asked) → has_key c.insert.new.self.keys k ≡ cond (eq-value.it c.asked_of-asked.result k) true (has_key c.reserve.new.self.keys k) = λ k. c.in-Ok.ensures.updates.0 k in
    subst (λ (reads : List Read). IsIndex c.insert.new.self.keys reads) (sym more)
    (index_more c.reserve.new.self.keys c.insert.new.self.keys c.self.inside.reads c.args.read
    (index_same c.self.inside.index.keys c.reserve.new.self.keys c.self.inside.reads c.self.invariant (λ k. c.reserve.ensures.keys.2 k))
    (λ k. updates k ∙ ap (λ a. cond (eq-value.it a k) true (has_key c.reserve.new.self.keys k)) c.asked_of-asked.ensures))
