-- One text is one module or has one first cause against it; and the steps by which a text is accepted.
use Rattle.std.proofs.Common.{◌≡◌, ℕ, List, Some, None, Result, Ok, Err, inl, inr, refl, sym, ◌∙◌, ap, subst, true, false}
use Rattle.ir_types.specs.declared.id.Id.{Id}
use Rattle.ir_types.specs.declared.opd.Opd.{Opd}
use Rattle.ir_types.specs.declared.opd.Opd.TheVariants.{Val, Lit, Sym}
use Rattle.ir_types.specs.declared.inst.Inst.{Inst}
use Rattle.ir_types.specs.declared.func.Block.{Block}
use Rattle.ir_types.specs.declared.func.Func.{Func}
use Rattle.ir_types.specs.declared.module.Item.{Item}
use Rattle.ir_types.specs.declared.module.Item.TheVariants.{Kept, Opaque, Func as FuncItem}
use Rattle.ir_types.specs.declared.module.Module.{Module}
use Rattle.ir_types.specs.Formed.{IsFormed}
use Rattle.ir_types.specs.Available.{IsAvailable, IsFirstMiss, InstMisses, BlockMisses, FuncMisses, ItemMisses, OpdMisses, IsAvailableOpd, IsAvailableInst, IsAvailableBlock, IsAvailableFunc, IsAvailableItem, First, Each}
use Rattle.ir_draft.specs.declared.draft.Draft.{Draft}
use Rattle.ir_read.specs.Draft.{draft_of}
use Rattle.ir_read.specs.declared.refusal.ReadRefusal.{ReadRefusal}
use Rattle.ir_avail.specs.declared.refusal.AvailRefusal.{AvailRefusal}
use Rattle.ir_avail.specs.declared.refusal.AvailRefusal.TheVariants.{NotAvailable as Miss, OutOfMemory as AvailNoMemory}
use Rattle.ir_avail.specs.Verdict.{BlamesFirst}
use Rattle.ir_types_check.specs.declared.refusal.ResolveRefusal.{ResolveRefusal}
use Rattle.ir_types_check.specs.declared.resolved.Resolved.{Resolved}
use Rattle.ir_types_check.specs.Resolved.{resolved_of}
use Rattle.ir_read.proofs.ItemsRead.{draft_items}
use Rattle.ir_types_check.proofs.NamesHold.{names_hold}
use Rattle.rf_formed.proofs.AcceptedModules.{formed}
use Rattle.rf_text.specs.Exact.{Gives}
use Rattle.rf_text.specs.Spelled.{Spelled}
use Rattle.rf_text.proofs.Given.{spelled_given, given_within}
use Rattle.rf_text.proofs.Spells.Module.{texts_spell}
use Rattle.vec_top.specs.declared.cause.Cause.{Cause}
use Rattle.vec_top.specs.declared.cause.Cause.TheVariants.{Lex, NotALine, Misplaced, Passes, TwiceDefined, Unknown, IllTyped, NotAvailable, BigEndian}
use Rattle.vec_top.specs.declared.fault.Fault.{Fault}
use Rattle.vec_top.specs.declared.fault.Fault.TheVariants.{Refused, Word, ReadFault, WriteFault, TooLong, NoMemory}
use Rattle.vec_top.specs.Accepts.{Resolves, Accepts, IsUnresolved, IsCause}
use Rattle.vec_top.specs.Making.{EndsBy, Blames, Orders, AcceptsTo, IsReady}

-- the first use that is not available is not available

clash : (b : _) → b ≡ true → b ≡ false → ⊥
clash b h n = let e : true ≡ false = sym h ∙ n in cc

first_fails : {X : Type 0} (Fine Fails : ℕ → X → Type 0) (xs : List X) → ((k : ℕ) (x : X) → Fails k x → Fine k x → ⊥) → First Fine Fails xs → Each Fine xs → ⊥
first_fails Fine Fails xs never first each = never first.0 first.1 first.4 (each first.0 first.1 first.2)

module _ (user : Id) (slot : ℕ) (walk : List ℕ) where
  opd_fails : (f : Func) (b at : ℕ) (i : Inst) (k : ℕ) (o : Opd) → (k ≡ slot) × OpdMisses walk f b at i k o → IsAvailableOpd f b at i k o → ⊥
  opd_fails f b at i k (Val id) m fine = clash _ (fine m.1.0 m.1.1 walk m.1.2.0.0 m.1.2.0.1) m.1.2.0.2
  opd_fails f b at i k (Lit l) m fine = absurd m.1
  opd_fails f b at i k (Sym g) m fine = absurd m.1

  inst_fails : (f : Func) (b at : ℕ) (i : Inst) → InstMisses user slot walk f b at i → IsAvailableInst f b at i → ⊥
  inst_fails f b at i m fine = first_fails _ _ i.opds (opd_fails f b at i) m.1 fine

  block_fails : (f : Func) (n : ℕ) (b : Block) → BlockMisses user slot walk f n b → IsAvailableBlock f n b → ⊥
  block_fails f n b m fine = first_fails _ _ b.insts (λ at i. inst_fails f n at i) m fine

  func_fails : (f : Func) → FuncMisses user slot walk f → IsAvailableFunc f → ⊥
  func_fails f m fine = first_fails _ _ f.blocks (λ n b. block_fails f n b) m fine

  item_fails : (k : ℕ) (x : Item) → ItemMisses user slot walk k x → IsAvailableItem k x → ⊥
  item_fails k (FuncItem f) m fine = func_fails f m fine
  item_fails k (Kept t) m fine = absurd m
  item_fails k (Opaque t) m fine = absurd m

  module_fails : (m : Module) → IsFirstMiss user slot walk m → IsAvailable m → ⊥
  module_fails m miss fine = first_fails _ _ m.items item_fails miss fine

-- what a text resolves to is one

same_draft : (bytes : List ℕ) (d e : Draft) → draft_of bytes ≡ Ok d → draft_of bytes ≡ Ok e → d ≡ e
same_draft bytes d e p q = let x : Ok d ≡ Ok e = sym p ∙ q in cc

pub resolves_once : (bytes : List ℕ) (r s : Resolved) → Resolves bytes r → Resolves bytes s → r ≡ s
resolves_once bytes r s p q =
    let same : p.draft ≡ q.draft = same_draft bytes p.draft q.draft p.drafted q.drafted in
    let x : Ok r ≡ Ok s = sym p.resolved ∙ ap resolved_of same ∙ q.resolved in cc

unread : (bytes : List ℕ) (r : Resolved) (refusal : ReadRefusal) → draft_of bytes ≡ Err refusal → Resolves bytes r → ⊥
unread bytes r refusal p q = let x : Err refusal ≡ Ok q.draft = sym p ∙ q.drafted in cc

unresolved : (bytes : List ℕ) (r : Resolved) (refusal : ResolveRefusal) → IsUnresolved bytes refusal → Resolves bytes r → ⊥
unresolved bytes r refusal p q =
    let same : p.draft ≡ q.draft = same_draft bytes p.draft q.draft p.drafted q.drafted in
    let x : Err refusal ≡ Ok r = sym p.refused ∙ ap resolved_of same ∙ q.resolved in cc

-- a text that is accepted resolves to the module that it is

pub given : (bytes : List ℕ) (m : Module) → Accepts bytes m → (r : Resolved) × Resolves bytes r × (r.«module» ≡ m)
given bytes m a =
    let g : Gives bytes m = spelled_given bytes m a.spelled a.formed a.within in
    (g.resolved, record { draft = g.draft; drafted = g.drafted; resolved = g.resolves }, g.is)

unread_again : (bytes : List ℕ) (m : Module) (refusal : ReadRefusal) → draft_of bytes ≡ Err refusal → Accepts bytes m → ⊥
unread_again bytes m refusal c a = let g : (r : Resolved) × Resolves bytes r × (r.«module» ≡ m) = given bytes m a in unread bytes g.0 refusal c g.1

unresolved_again : (bytes : List ℕ) (m : Module) (refusal : ResolveRefusal) → IsUnresolved bytes refusal → Accepts bytes m → ⊥
unresolved_again bytes m refusal c a = let g : (r : Resolved) × Resolves bytes r × (r.«module» ≡ m) = given bytes m a in unresolved bytes g.0 refusal c g.1

pub resolved_again : (bytes : List ℕ) (m : Module) (r : Resolved) → Resolves bytes r → Accepts bytes m → r.«module» ≡ m
resolved_again bytes m r c a =
    let g : (s : Resolved) × Resolves bytes s × (s.«module» ≡ m) = given bytes m a in
    ap (λ (s : Resolved). s.«module») (resolves_once bytes r g.0 c g.1) ∙ g.2

-- a text against which there is a cause is no module that is accepted
pub refused_for_good : (bytes : List ℕ) (cause : Cause) → IsCause bytes cause → (m : Module) → Accepts bytes m → ⊥
refused_for_good bytes (Lex line byte) c m a = unread_again bytes m _ c a
refused_for_good bytes (NotALine line) c m a = unread_again bytes m _ c a
refused_for_good bytes (Misplaced line) c m a = unread_again bytes m _ c a
refused_for_good bytes (Passes limit) c m a = unread_again bytes m _ c a
refused_for_good bytes (TwiceDefined line name) c m a = unresolved_again bytes m _ c a
refused_for_good bytes (Unknown line name) c m a = unresolved_again bytes m _ c a
refused_for_good bytes (IllTyped line) c m a = unresolved_again bytes m _ c a
refused_for_good bytes (NotAvailable line name walk) c m a =
    module_fails c.2.user c.2.slot walk c.0.«module» c.2.first (subst (λ n. IsAvailable n) (sym (resolved_again bytes m c.0 c.1 a)) a.formed.available)
refused_for_good bytes (BigEndian line) c m a =
    let x : Some line ≡ None = sym c.3 ∙ ap (λ (n : Module). n.big_endian_line) (resolved_again bytes m c.0 c.1 a) ∙ a.little_endian in cc

-- the steps of accepting

pub blamed : (bytes : List ℕ) (r : Resolved) (refusal : AvailRefusal) (fault : Fault) → Resolves bytes r → BlamesFirst r.«module» refusal → Blames r refusal fault → EndsBy bytes fault
blamed bytes r (Miss user slot walk) fault resolves first (inl e) =
    subst (λ f. EndsBy bytes f) (sym e) (r, resolves, record { user = user; slot = slot; first = first; at = refl; shown = refl })
blamed bytes r (Miss user slot walk) fault resolves first (inr e) = subst (λ f. EndsBy bytes f) (sym e) tt
blamed bytes r AvailNoMemory fault resolves first e = subst (λ f. EndsBy bytes f) (sym e) tt

pub ordered : (bytes : List ℕ) (r : Resolved) (answer : Result Module Fault) → Resolves bytes r → IsAvailable r.«module» → Orders r.«module» answer → AcceptsTo bytes answer
ordered bytes r (Ok m) resolves fine o =
    let spelled : Spelled bytes r.«module» = texts_spell bytes resolves.draft r resolves.drafted resolves.resolved o.1 in
    let fit : IsFormed r.«module» = formed bytes resolves.draft r resolves.drafted resolves.resolved fine in
    subst (λ n. Accepts bytes n) (sym o.0) (record {
      reads = record { items = resolves.draft.items; says = draft_items bytes resolves.draft resolves.drafted; named = names_hold resolves.draft r resolves.resolved };
      spelled = spelled;
      formed = fit;
      within = given_within bytes r.«module» spelled fit (record { draft = resolves.draft; drafted = resolves.drafted; resolved = r; resolves = resolves.resolved; is = refl });
      little_endian = o.1;
    })
ordered bytes r (Err (Refused (BigEndian line))) resolves fine o = (r, resolves, fine, o)
ordered bytes r (Err (Refused (Lex line byte))) resolves fine o = absurd o
ordered bytes r (Err (Refused (NotALine line))) resolves fine o = absurd o
ordered bytes r (Err (Refused (Misplaced line))) resolves fine o = absurd o
ordered bytes r (Err (Refused (Passes limit))) resolves fine o = absurd o
ordered bytes r (Err (Refused (TwiceDefined line name))) resolves fine o = absurd o
ordered bytes r (Err (Refused (Unknown line name))) resolves fine o = absurd o
ordered bytes r (Err (Refused (IllTyped line))) resolves fine o = absurd o
ordered bytes r (Err (Refused (NotAvailable line name walk))) resolves fine o = absurd o
ordered bytes r (Err (Word place)) resolves fine o = absurd o
ordered bytes r (Err ReadFault) resolves fine o = absurd o
ordered bytes r (Err WriteFault) resolves fine o = absurd o
ordered bytes r (Err TooLong) resolves fine o = absurd o
ordered bytes r (Err NoMemory) resolves fine o = absurd o

-- a module that is accepted may be worked on
pub ready : (bytes : List ℕ) (m : Module) → Accepts bytes m → IsReady m
ready bytes m a = record { formed = a.formed; printable = a.spelled.printable; numbered = a.spelled.numbered }
