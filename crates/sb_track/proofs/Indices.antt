-- A question is found by its hash exactly where it was noted.
use Rattle.std.proofs.Common.{◌≡◌, refl, sym, ap, ◌∙◌, Bool, true, false, ◌&&◌, ◌||◌, List, [], ◌∷◌, ◌++◌, cond, ◌==◌}
use Rattle.std.specs.List.{list_any}
use Rattle.std.proofs.Math.Path.{fun_ext}
use Rattle.vx_view.specs.declared.question.Question.{Question}
use Rattle.vx_view.specs.declared.question.Question.TheVariants as ask
use Rattle.vx_view.specs.declared.read.Read.{Read}
use Rattle.vx_view.specs.Views.{same_question, is_noted}
use Rattle.sb_track.specs.declared.notes.Asked.{Asked}
use Rattle.sb_track.specs.contracts.notes.AskedPartialEq.TheImpl.{eq-value}
use Rattle.sb_track.specs.declared.notes.Kind.{Kind}
use Rattle.sb_track.specs.declared.notes.Kind.TheVariants as kind
use Rattle.sb_track.specs.Indexing.{asked_of, same_kind, same_asked, IsIndex}

pub same_either : (p q : Question) → same_asked (asked_of p) (asked_of q) ≡ same_question p q
same_either (ask.Inst a) (ask.Inst b) = refl
same_either (ask.Inst a) (ask.Next b) = refl
same_either (ask.Inst a) (ask.Prev b) = refl
same_either (ask.Inst a) (ask.Users b) = refl
same_either (ask.Inst a) (ask.First b) = refl
same_either (ask.Next a) (ask.Inst b) = refl
same_either (ask.Next a) (ask.Next b) = refl
same_either (ask.Next a) (ask.Prev b) = refl
same_either (ask.Next a) (ask.Users b) = refl
same_either (ask.Next a) (ask.First b) = refl
same_either (ask.Prev a) (ask.Inst b) = refl
same_either (ask.Prev a) (ask.Next b) = refl
same_either (ask.Prev a) (ask.Prev b) = refl
same_either (ask.Prev a) (ask.Users b) = refl
same_either (ask.Prev a) (ask.First b) = refl
same_either (ask.Users a) (ask.Inst b) = refl
same_either (ask.Users a) (ask.Next b) = refl
same_either (ask.Users a) (ask.Prev b) = refl
same_either (ask.Users a) (ask.Users b) = refl
same_either (ask.Users a) (ask.First b) = refl
same_either (ask.First a) (ask.Inst b) = refl
same_either (ask.First a) (ask.Next b) = refl
same_either (ask.First a) (ask.Prev b) = refl
same_either (ask.First a) (ask.Users b) = refl
same_either (ask.First a) (ask.First b) = refl

noted_more : (q : Question) (reads : List Read) (r : Read) → is_noted q (reads ++ r ∷ []) ≡ (same_question r.question q || is_noted q reads)
noted_more q [] r = refl
noted_more q (x ∷ reads) r = ap (λ b. same_question x.question q || b) (noted_more q reads r) ∙ swap (same_question x.question q) (same_question r.question q) where
  swap : (a b : Bool) → (a || (b || is_noted q reads)) ≡ (b || (a || is_noted q reads))
  swap true true = refl
  swap true false = refl
  swap false true = refl
  swap false false = refl

-- ---- the comparison that is derived

derived_is : (a b : Asked) → eq-value.it a b ≡ same_asked a b
derived_is a b = by_kinds a.kind b.kind
  where
    by_kinds : (k l : Kind) → eq-value.it (record { kind = k; major = a.major; minor = a.minor }) (record { kind = l; major = b.major; minor = b.minor }) ≡ (same_kind k l && (a.major == b.major && (a.minor == b.minor)))
    by_kinds kind.Inst kind.Inst = refl
    by_kinds kind.Inst kind.Next = refl
    by_kinds kind.Inst kind.Prev = refl
    by_kinds kind.Inst kind.Users = refl
    by_kinds kind.Inst kind.First = refl
    by_kinds kind.Next kind.Inst = refl
    by_kinds kind.Next kind.Next = refl
    by_kinds kind.Next kind.Prev = refl
    by_kinds kind.Next kind.Users = refl
    by_kinds kind.Next kind.First = refl
    by_kinds kind.Prev kind.Inst = refl
    by_kinds kind.Prev kind.Next = refl
    by_kinds kind.Prev kind.Prev = refl
    by_kinds kind.Prev kind.Users = refl
    by_kinds kind.Prev kind.First = refl
    by_kinds kind.Users kind.Inst = refl
    by_kinds kind.Users kind.Next = refl
    by_kinds kind.Users kind.Prev = refl
    by_kinds kind.Users kind.Users = refl
    by_kinds kind.Users kind.First = refl
    by_kinds kind.First kind.Inst = refl
    by_kinds kind.First kind.Next = refl
    by_kinds kind.First kind.Prev = refl
    by_kinds kind.First kind.Users = refl
    by_kinds kind.First kind.First = refl

-- the index has a key, by the comparison that is derived
abbrev pub has_key : List Asked → Asked → Bool
has_key keys k = list_any (eq-value.it k) keys

has_is : (keys : List Asked) (k : Asked) → has_key keys k ≡ list_any (same_asked k) keys
has_is keys k = ap (λ (f : Asked → Bool). list_any f keys) (fun_ext (derived_is k))

-- the index with one question more
pub index_more : (keys next : List Asked) (reads : List Read) (r : Read) → IsIndex keys reads →
    ((k : Asked) → has_key next k ≡ cond (eq-value.it (asked_of r.question) k) true (has_key keys k)) → IsIndex next (reads ++ r ∷ [])
index_more keys next reads r index updates q =
    sym (has_is next (asked_of q)) ∙ updates (asked_of q) ∙ ap (λ b. cond b true (has_key keys (asked_of q))) (derived_is (asked_of r.question) (asked_of q) ∙ same_either r.question q)
    ∙ ap (λ b. cond (same_question r.question q) true b) (has_is keys (asked_of q) ∙ index q) ∙ as_or (same_question r.question q) ∙ sym (noted_more q reads r)
  where
    as_or : (b : Bool) → cond b true (is_noted q reads) ≡ (b || is_noted q reads)
    as_or true = refl
    as_or false = refl

pub index_same : (keys next : List Asked) (reads : List Read) → IsIndex keys reads → ((k : Asked) → has_key next k ≡ has_key keys k) → IsIndex next reads
index_same keys next reads index same q = sym (has_is next (asked_of q)) ∙ same (asked_of q) ∙ has_is keys (asked_of q) ∙ index q
