-- What one question tells of an instruction, in each formed module that a view stands for.
use Rattle.std.proofs.Common.{Result, Ok, Err, IfOk, ◌≡◌, refl, sym, ap, ◌∙◌, subst, Bool, true, Option, None, Some, option_map}
use Rattle.ir_types.specs.declared.id.Id.{Id}
use Rattle.ir_types.specs.declared.id.Place.{Place}
use Rattle.ir_types.specs.declared.func.Param.{Param}
use Rattle.ir_types.specs.declared.opd.Opd.TheVariants.{Val}
use Rattle.ir_types.specs.declared.module.Module.{Module}
use Rattle.ir_types.specs.Formed.{IsFormed}
use Rattle.vx_view.specs.declared.answer.Answer.{Answer}
use Rattle.vx_view.specs.declared.question.Question.{Question}
use Rattle.vx_view.specs.declared.question.Question.TheVariants as ask
use Rattle.vx_view.specs.Answers.{funcs_of, param_of, find, found, Standing, of_value, answer}
use Rattle.vx_view.specs.Blocks.{block_at, in_place}
use Rattle.vx_view.specs.Conflicts.{value_kind, kind_of}
use Rattle.vx_view.specs.Views.{State, StandsFor, Asks}
use Rattle.vx_view.proofs.Blocks.{standing_is, found_alone}
use Rattle.vx_view.proofs.Asking.{asks_none, asks_more}
use Rattle.vx_addr.specs.Parts.{where_of, where_answered, kind_answered}
use Rattle.vx_addr.specs.Walks.{Names}

-- nothing was asked
pub asks_same : (P : Module → Question → Type 0) (s new : State) → new ≡ s → Asks P s new
asks_same P s new e = subst (Asks P s) (sym e) (asks_none P s)

-- the answer has what the block has
pub placed : (m : Module) (place : Place) (x : Id) (a : Answer) → IsFormed m → answer m (ask.Inst x) ≡ a → in_place place a ≡ find x (block_at m place)
placed m place x a h e = ap (in_place place) (sym e) ∙ standing_is m h place x

where_is : (m : Module) → IsFormed m → (x : Id) (p : Option Param) (u : Option Standing) → param_of x (funcs_of m.items) ≡ p → found m x ≡ u →
    where_answered (of_value p u) ≡ option_map where_of u
where_is m h x None None e f = refl
where_is m h x None (Some s) e f = refl
where_is m h x (Some p) None e f = refl
where_is m h x (Some p) (Some s) e f = absurd (no_param (sym e ∙ found_alone x s m h f)) where
  no_param : {A : Type 0} {a : A} → Some a ≡ None → ⊥
  no_param e = cc

-- the answer has where the instruction stands
pub stood : (m : Module) (x : Id) (a : Answer) → IsFormed m → answer m (ask.Inst x) ≡ a → where_answered a ≡ option_map where_of (found m x)
stood m x a h e = ap where_answered (sym e) ∙ where_is m h x (param_of x (funcs_of m.items)) (found m x) refl refl

kind_is : (p : Option Param) (u : Option Standing) → kind_answered (of_value p u) ≡ value_kind p u
kind_is (Some p) u = refl
kind_is None None = refl
kind_is None (Some s) = refl

-- the answer has the kind
pub kinded : (m : Module) (x : Id) (a : Answer) → answer m (ask.Inst x) ≡ a → kind_answered a ≡ kind_of m (Val x)
kinded m x a e = ap kind_answered (sym e) ∙ kind_is (param_of x (funcs_of m.items)) (found m x)

-- a question of an id that is named
pub names_one : (on : Id → Bool) (x : Id) → on x ≡ true → (q : Question) → q ≡ ask.Inst x → Names on q
names_one on x h q e = (x, e, h)

pub asks_named : (on : Module → Id → Bool) (x : Id) (s u : State) → Asks (λ m q. q ≡ ask.Inst x) s u → ((m : Module) → StandsFor u m → IsFormed m → on m x ≡ true) →
    Asks (λ m. Names (on m)) s u
asks_named on x s u a h = asks_more (λ m q. q ≡ ask.Inst x) (λ m. Names (on m)) s u a (λ m t f. names_one (on m) x (h m t f))

pub names_more : (on more : Id → Bool) → ((x : Id) → on x ≡ true → more x ≡ true) → (q : Question) → Names on q → Names more q
names_more on more f q n = (n.0, n.1, f n.0 n.2)

-- where a call succeeds, one fact for another
pub if_ok : {A E : Type 0} (r : Result A E) (P Q : A → Type 0) → ((a : A) → P a → Q a) → IfOk r P → IfOk r Q
if_ok (Ok a) P Q f h = f a h
if_ok (Err e) P Q f h = h
