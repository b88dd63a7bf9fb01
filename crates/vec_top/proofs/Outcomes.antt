-- From what the words and the input come to, and what was written, to the reply.
use Rattle.std.proofs.Common.{◌≡◌, ℕ, ◌<◌, ◌≤◌, List, Some, None, Option, Ok, Err, inl, inr, refl, sym, ap, subst, length, arith, Vec, Global, true, false}
use Rattle.std.specs.Prelude.{IfSome}
use Rattle.std.specs.Io.KnownBytes.{Appends, Keeps}
use Rattle.vx_io.specs.Bytes.{AppendsFront}
use Rattle.vx_io.specs.Count.{Rose}
use Rattle.ir_types.specs.declared.module.Module.{Module}
use Rattle.vec_words.specs.declared.commands.Command.{Command}
use Rattle.vec_words.specs.Commands.{command_of}
use Rattle.vec_words.specs.Answers.{Refuses}
use Rattle.vec_words.specs.declared.refusal.WordsRefusal.{WordsRefusal}
use Rattle.vec_words.specs.declared.refusal.WordsRefusal.TheVariants.{Word as Unfit, OutOfMemory}
use Rattle.vec_top.specs.declared.cause.Cause.{Cause}
use Rattle.vec_top.specs.declared.fault.Fault.{Fault}
use Rattle.vec_top.specs.declared.fault.Fault.TheVariants.{Refused, Word, ReadFault, WriteFault, TooLong, NoMemory}
use Rattle.vec_top.specs.Accepts.{Accepts, IsCause}
use Rattle.vec_top.specs.Results.{result_of, Promises}
use Rattle.vec_top.specs.Replies.{Streams, Tells, IsTold, OnlyTells, ReadsAll, Done, WriteFailed, Replies, told}
use Rattle.vec_top.specs.Making.{fault_for, Makes, Nothing, Something, MakesNothing, MakesFor, ReadsTo, Gives, Misfits}
use Rattle.vec_top.proofs.Accepting.{refused_for_good}

keeps_same : (o : Option (List ℕ)) → Keeps o o
keeps_same None = tt
keeps_same (Some xs) = refl

-- what holds of a value that is there, one step on
if_some : {A : Type 0} (P Q : A → Type 0) (o : Option A) → ((x : A) → P x → Q x) → IfSome o P → IfSome o Q
if_some P Q None f h = tt
if_some P Q (Some x) f h = f x h

module _ (ws : List (List ℕ)) (l l' : Option (List ℕ)) (b n : ℕ) (o : Option (List ℕ)) (of' : ℕ) (room : Option ℕ) (e e' : Option (List ℕ)) (ef ef' : ℕ) where
  -- the streams where `out` took nothing
  abbrev quiet : Streams
  quiet = record { left = l; left_after = l'; read_faults = b; read_faults_after = n; out = o; out_after = o; out_faults = of'; out_faults_after = of'; room = room; err = e; err_after = e'; err_faults = ef; err_faults_after = ef' }

  only : (f : Fault) → Tells e e' ef ef' (told f) → OnlyTells quiet f
  only f t = record { err = t; out = keeps_same o; out_faults = refl }

  as_told : (f g : Fault) → g ≡ f → Tells e e' ef ef' (told g) → (Tells e e' ef ef' (told f) → Replies ws quiet (Some f)) → Replies ws quiet (Some g)
  as_told f g same t k = let P : Fault → Type 0 = λ h. Tells e e' ef ef' (told h) → Replies ws quiet (Some h) in subst P (sym same) k t

  starved : n ≡ b → (g : Fault) → g ≡ NoMemory → Tells e e' ef ef' (told g) → Replies ws quiet (Some g)
  starved same g p t = as_told NoMemory g p t (λ u. record { read_faults = same; tells = only NoMemory u })

  abbrev all_of : (c : Command) → command_of ws ≡ Ok c → (Holds : List ℕ → Type 0) → ReadsTo l l' b n Holds → ReadsAll ws quiet
  all_of c says Holds r = record { command = c; says = says; ends = r.ends; read_faults = r.quiet; within = r.within }

  refused : (cause : Cause) (g : Fault) (c : Command) → command_of ws ≡ Ok c → ReadsTo l l' b n (λ bytes. IsCause bytes cause) → IsTold (Refused cause) g → Tells e e' ef ef' (told g) → Replies ws quiet (Some g)
  refused cause g c says r (inl p) t =
      as_told (Refused cause) g p t (λ u. record {
        reads_all = all_of c says _ r;
        first = r.holds;
        no_module = if_some (λ bytes. IsCause bytes cause) (λ bytes. (m : Module) → Accepts bytes m → ⊥) l (λ bytes h. refused_for_good bytes cause h) r.holds;
        tells = only (Refused cause) u;
      })
  refused cause g c says r (inr p) t = starved r.quiet g p t

  misfit : (place : ℕ) (g : Fault) (c : Command) → command_of ws ≡ Ok c → ReadsTo l l' b n (Misfits c place) → IsTold (Word place) g → Tells e e' ef ef' (told g) → Replies ws quiet (Some g)
  misfit place g c says r (inl p) t = as_told (Word place) g p t (λ u. inr (record { reads_all = all_of c says _ r; word = r.holds; tells = only (Word place) u }))
  misfit place g c says r (inr p) t = starved r.quiet g p t

  held : (c : Command) → command_of ws ≡ Ok c → (f g : Fault) → MakesFor c l l' b n (Err f) → IsTold f g → Tells e e' ef ef' (told g) → Replies ws quiet (Some g)
  held c says (Refused cause) g r p t = refused cause g c says r p t
  held c says (Word place) g r p t = misfit place g c says r p t
  held c says ReadFault g rose p t = as_told ReadFault g p t (λ u. record { command = c; says = says; rose = rose; tells = only ReadFault u })
  held c says WriteFault g never p t = absurd never
  held c says TooLong g h p t = as_told TooLong g p t (λ u. record { command = c; says = says; read_faults = h.0; long = h.1; tells = only TooLong u })
  held c says NoMemory g same p t = starved same g p t

  unheld : (f g : Fault) → MakesNothing ws l l' b n f → IsTold f g → Tells e e' ef ef' (told g) → Replies ws quiet (Some g)
  unheld (Word place) g h (inl p) t = as_told (Word place) g p t (λ u. inl (record { word = h.unheld; unread = h.unread; read_faults = h.quiet; tells = only (Word place) u }))
  unheld (Word place) g h (inr p) t = starved h.quiet g p t
  unheld NoMemory g h p t = starved h.quiet g p t
  unheld (Refused cause) g h p t = absurd h.unheld
  unheld ReadFault g h p t = absurd h.unheld
  unheld WriteFault g h p t = absurd h.unheld
  unheld TooLong g h p t = absurd h.unheld

  pub from_fault : (f g : Fault) → Makes ws l l' b n (Err f) → IsTold f g → Tells e e' ef ef' (told g) → Replies ws quiet (Some g)
  from_fault f g (Nothing h is nothing) p t =
      let same : h ≡ f = cc in
      unheld f g (subst (λ x. MakesNothing ws l l' b n x) same nothing) p t
  from_fault f g (Something (c, says, made)) p t = held c says f g made p t

module _ (ws : List (List ℕ)) (l l' : Option (List ℕ)) (b n : ℕ) (o o' : Option (List ℕ)) (of' of'' : ℕ) (room : Option ℕ) (e e' : Option (List ℕ)) (ef ef' : ℕ) (text : Vec ℕ Global) where
  -- the streams where a text was written
  abbrev written : Streams
  written = record { left = l; left_after = l'; read_faults = b; read_faults_after = n; out = o; out_after = o'; out_faults = of'; out_faults_after = of''; room = room; err = e; err_after = e'; err_faults = ef; err_faults_after = ef' }

  abbrev everything : (c : Command) → command_of ws ≡ Ok c → ReadsTo l l' b n (Gives c text.items) → ReadsAll ws written
  everything c says r = record { command = c; says = says; ends = r.ends; read_faults = r.quiet; within = r.within }

  pub from_whole : Makes ws l l' b n (Ok text) → Appends o o' text.items → of'' ≡ of' → e' ≡ e → ef' ≡ ef → Done ws written
  from_whole (Nothing h is nothing) appended quiet_out same_err same_faults = cc
  from_whole (Something (c, says, made)) appended quiet_out same_err same_faults = record {
    reads_all = everything c says made;
    printed = if_some (Gives c text.items) (λ bytes. (m : Module) × (t : List ℕ) × Accepts bytes m × (result_of c m ≡ Ok t) × Appends o o' t × Promises c m) l
        (λ bytes x. (x.0, text.items, x.1, x.2, appended, x.3)) made.holds;
    out_faults = quiet_out;
    err = subst (λ s. Keeps e s) (sym same_err) (keeps_same e);
    err_faults = same_faults;
  }

  front_of : Makes ws l l' b n (Ok text) → AppendsFront o o' text.items → Rose of' of'' → IfSome room (λ k. k < length text.items) → Tells e e' ef ef' (told WriteFault) → WriteFailed ws written
  front_of (Nothing h is nothing) front rose sure t = cc
  front_of (Something (c, says, made)) front rose sure t = record {
    reads_all = everything c says made;
    front = if_some (Gives c text.items) (λ bytes. (m : Module) × (u : List ℕ) × Accepts bytes m × (result_of c m ≡ Ok u) × AppendsFront o o' u × IfSome room (λ k. k < length u)) l
        (λ bytes x. (x.0, text.items, x.1, x.2, front, sure)) made.holds;
    rose = rose;
    err = t;
  }

  pub from_failed : (g : Fault) → g ≡ WriteFault → Makes ws l l' b n (Ok text) → AppendsFront o o' text.items → Rose of' of'' → IfSome room (λ k. k < length text.items) → Tells e e' ef ef' (told g) → Replies ws written (Some g)
  from_failed g same made front rose sure t =
      let P : Fault → Type 0 = λ h. Tells e e' ef ef' (told h) → Replies ws written (Some h) in subst P (sym same) (front_of made front rose sure) t

-- words that do not hold, and want of memory, before anything is read
pub unheld_first : (ws : List (List ℕ)) (l : Option (List ℕ)) (n : ℕ) (refusal : WordsRefusal) (fault : Fault) → fault ≡ fault_for refusal → Refuses refusal (command_of ws) → Makes ws l l n n (Err fault)
unheld_first ws l n (Unfit place) fault same e = Nothing (Word place) (ap Err same) (record { unheld = e; unread = keeps_same l; quiet = refl })
unheld_first ws l n OutOfMemory fault same e = Nothing NoMemory (ap Err same) (record { unheld = tt; unread = keeps_same l; quiet = refl })

-- a write that failed was not sure of room
pub not_sure : (room : Option ℕ) (xs : List ℕ) → IfSome room (λ k. length xs ≤ k → false ≡ true) → IfSome room (λ k. k < length xs)
not_sure room xs = if_some (λ k. length xs ≤ k → false ≡ true) (λ k. k < length xs) room (λ k h. less xs k (λ q. let e : false ≡ true = h q in cc))
  where
    less : (xs : List ℕ) (k : ℕ) → (length xs ≤ k → ⊥) → k < length xs
    less xs k h = omega arith
