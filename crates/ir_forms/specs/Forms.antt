-- The forms of the lines inside functions, but the call: for each form its free choices (`Form`), the line that it is (`line_of`), its parts in
-- order (`slots`), and the tree by which it is read.
-- LLVM Language Reference, "Instruction Reference", has the forms one by one.
use Rattle.std.specs.Prelude.{◌≡◌, ℕ, Bool, Option, Some, None, unwrap_or, List, [], ◌∷◌, codes}
use Rattle.vx_num.specs.declared.operations.BinOp.{BinOp}
use Rattle.vx_num.specs.declared.operations.BinOp.TheVariants.{Add, Sub, Mul, Shl, Udiv, Sdiv, Urem, Srem, Lshr, Ashr, And, Or as OrOp, Xor}
use Rattle.vx_num.specs.declared.operations.Pred.{Pred}
use Rattle.vx_num.specs.declared.operations.CastOp.{CastOp}
use Rattle.vx_num.specs.declared.operations.CastOp.TheVariants.{Zext, Sext, Trunc}
use Rattle.vx_num.specs.declared.operations.Flags.{Flags as FlagsOf}
use Rattle.ir_types.specs.declared.ty.Ty.{Ty}
use Rattle.ir_types.specs.declared.ty.Ty.TheVariants.{Void, Int, Ptr, Row}
use Rattle.ir_types.specs.declared.ty.Elem.{Elem}
use Rattle.ir_types.specs.declared.ty.Elem.TheVariants.{One, Array}
use Rattle.ir_types.specs.declared.op.Op.{Op}
use Rattle.ir_types.specs.declared.op.Op.TheVariants as ops
use Rattle.ir_types.specs.Typed.{lane_width}
use Rattle.ir_words.specs.declared.kinds.Kind.{Kind}
use Rattle.ir_words.specs.declared.kinds.Kind.TheVariants as kind
use Rattle.ir_words.specs.declared.flags.FlagSet.{FlagSet}
use Rattle.ir_words.specs.declared.flags.FlagSet.TheVariants.{Plain, Wrap, Exact, Disjoint, NonNegative, Address, SameSign}
use Rattle.ir_words.specs.declared.opcode.Opcode.{Opcode}
use Rattle.ir_words.specs.declared.opcode.Opcode.TheVariants as opcode
use Rattle.ir_words.specs.declared.opcode.Act.{Act}
use Rattle.ir_words.specs.declared.opcode.Act.TheVariants as act
use Rattle.ir_draft.specs.declared.written.Written.{Written}
use Rattle.ir_draft.specs.declared.written.Arg.{Arg}
use Rattle.ir_draft.specs.declared.line.Line.{Line}
use Rattle.ir_draft.specs.declared.line.Line.TheVariants as lines
use Rattle.ir_forms.specs.declared.pairs.Incoming.{Incoming}
use Rattle.ir_words.specs.Words.{Words}
use Rattle.ir_words.specs.Reading.{has}
use Rattle.ir_forms.specs.Operands.{next_typed_at, choose}
use Rattle.ir_forms.specs.Pieces.{Piece, Value, Takes, Word, Name, Labelled, Code, ActCode, Comparison, Flags, OfKind, Bare, Other, Typed, Also, Aligned, Element, Mask, Target, AlsoTarget, Case, Pairs}
use Rattle.ir_forms.specs.Grammar.{Grammar, Done, Or, ends, ◌>>=◌, ◌>>◌}

-- the forms, with all that a line of each may choose, also what is dropped
pub data Form : Type 0 where
  -- `name:`
  Label : List ℕ → Form
  -- `iW N, label %b`
  Choice : Ty → ℕ → List ℕ → Form
  -- `]`
  ChoicesEnd : Form
  -- `%x = OP FLAGS T A, B`
  Binary : List ℕ → BinOp → Words → Ty → Written → Written → Form
  -- `%x = icmp samesign P T A, B`
  Compare : List ℕ → Words → Pred → Ty → Written → Written → Form
  -- `%x = OP FLAGS T A to U`
  Convert : List ℕ → CastOp → Words → Arg → Ty → Form
  -- `%x = select C A, R B, R D`
  Select : List ℕ → Arg → Arg → Arg → Form
  -- `%x = extractelement <n x iW> A, iK I`
  Extract : List ℕ → Arg → Arg → Form
  -- `%x = insertelement <n x iW> A, iW B, iK I`
  Insert : List ℕ → Arg → Arg → Arg → Form
  -- `%x = shufflevector <n x iW> A, <n x iW> B, <m x i32> MASK`, with the type of the result
  Shuffle : List ℕ → Arg → Arg → Ty × List (Option ℕ) → Form
  -- `%x = getelementptr FLAGS E, ptr P, iK I`
  Step : List ℕ → Words → Elem → Arg → Arg → Form
  -- `%x = getelementptr FLAGS [N x iW], ptr P, iK I, iL J`
  StepInto : List ℕ → Words → ℕ → ℕ → Arg → Arg → Arg → Form
  -- `%x = load M, ptr P, align N`
  Load : List ℕ → Ty → Arg → Option ℕ → Form
  -- `%x = alloca E, align N`
  Allocate : List ℕ → Elem → Option ℕ → Form
  -- `%x = phi R [ A, %b ], ..`
  Phi : List ℕ → Ty → Incoming → Form
  -- `store M A, ptr P, align N`
  Store : Arg → Arg → Option ℕ → Form
  -- `ret void`
  Return : Form
  -- `ret R A`
  ReturnValue : Arg → Form
  -- `br label %b`
  Jump : List ℕ → Form
  -- `br i1 C, label %a, label %b`
  Branch : Arg → List ℕ → List ℕ → Form
  -- `switch iW A, label %d [`
  Switch : Arg → List ℕ → Form
  -- `unreachable`
  Unreachable : Form

-- the line that a form is

abbrev pub arg : Ty → Written → Arg
arg t o = record { ty = t; opd = o }

abbrev pub gives : List ℕ → Ty → Op → List Arg → Line
gives name t op args = lines.Stmt (record { result = Some name; ty = t; op = op; args = args; labels = [] })

abbrev pub without_result : Ty → Op → List Arg → List (List ℕ) → Line
without_result t op args labels = lines.Stmt (record { result = None; ty = t; op = op; args = args; labels = labels })

abbrev pub flags_of : Words → FlagsOf
flags_of fs = record {
  nuw = has (codes "nuw") fs;
  nsw = has (codes "nsw") fs;
  exact = has (codes "exact") fs;
  disjoint = has (codes "disjoint") fs;
}

-- the type of a comparison's result
abbrev pub truth_of : Ty → Ty
truth_of (Row n w) = Row n 1
truth_of _ = Int 1

abbrev pub line_of : Form → Line
line_of (Label name) = lines.Label name
line_of (Choice t n name) = lines.Case (record { ty = t; lanes = Some n ∷ [] }) name
line_of ChoicesEnd = lines.CasesEnd
line_of (Binary x op fs t a b) = gives x t (ops.Bin op (flags_of fs)) (arg t a ∷ arg t b ∷ [])
line_of (Compare x fs p t a b) = gives x (truth_of t) (ops.Icmp p) (arg t a ∷ arg t b ∷ [])
line_of (Convert x op fs a u) = gives x u (ops.Cast op (has (codes "nneg") fs)) (a ∷ [])
line_of (Select x c a b) = gives x a.ty ops.Select (c ∷ a ∷ b ∷ [])
line_of (Extract x a i) = gives x (Int (lane_width a.ty)) ops.Extract (a ∷ i ∷ [])
line_of (Insert x a b i) = gives x a.ty ops.Insert (a ∷ b ∷ i ∷ [])
line_of (Shuffle x a b m) = gives x m.0 (ops.Shuffle m.1) (a ∷ b ∷ [])
line_of (Step x fs e p i) = gives x Ptr (ops.Gep e (has (codes "inbounds") fs)) (p ∷ i ∷ [])
line_of (StepInto x fs n w p i j) = gives x Ptr (ops.Gep (Array n w) (has (codes "inbounds") fs)) (p ∷ i ∷ j ∷ [])
line_of (Load x t p n) = gives x t (ops.Load (unwrap_or n 1)) (p ∷ [])
line_of (Allocate x e n) = gives x Ptr (ops.Alloca e n) []
line_of (Phi x t i) = lines.Stmt (record { result = Some x; ty = t; op = ops.Phi i.blocks; args = i.args; labels = i.labels })
line_of (Store a p n) = without_result a.ty (ops.Store (unwrap_or n 1)) (a ∷ p ∷ []) []
line_of Return = without_result Void ops.Ret [] []
line_of (ReturnValue a) = without_result Void ops.Ret (a ∷ []) []
line_of (Jump b) = without_result Void (ops.Br 0) [] (b ∷ [])
line_of (Branch c a b) = without_result Void (ops.CondBr 0 1) (c ∷ []) (a ∷ b ∷ [])
line_of (Switch a d) = without_result Void (ops.Switch 0 [] []) (a ∷ []) (d ∷ [])
line_of Unreachable = without_result Void ops.Unreachable [] []

-- the parts of a form in order

pub record Slot : Type 0 where
  pub piece : Piece
  pub value : Value piece

abbrev pub slot : (p : Piece) → Value p → Slot
slot p v = record { piece = p; value = v }

abbrev pub word : List ℕ → Slot
word v = slot (Word v) tt

-- the flags that an operation may have
abbrev pub bin_flags : BinOp → FlagSet
bin_flags Add = Wrap
bin_flags Sub = Wrap
bin_flags Mul = Wrap
bin_flags Shl = Wrap
bin_flags Udiv = Exact
bin_flags Sdiv = Exact
bin_flags Urem = Plain
bin_flags Srem = Plain
bin_flags Lshr = Exact
bin_flags Ashr = Exact
bin_flags And = Plain
bin_flags OrOp = Disjoint
bin_flags Xor = Plain

abbrev pub cast_flags : CastOp → FlagSet
cast_flags Zext = NonNegative
cast_flags Sext = Plain
cast_flags Trunc = Wrap

-- the type that an operand of a type is cast to
abbrev pub cast_kind : CastOp → Ty → Kind
cast_kind Zext t = kind.WiderThan t
cast_kind Sext t = kind.WiderThan t
cast_kind Trunc t = kind.NarrowerThan t

abbrev pub result : List ℕ → Opcode → List Slot → List Slot
result x op rest = slot Name x ∷ word (codes "=") ∷ slot Code op ∷ rest

abbrev pub slots : Form → List Slot
slots (Label name) = slot Labelled name ∷ []
slots (Choice t n b) = slot (OfKind kind.Integer) t ∷ slot (Case t) n ∷ slot AlsoTarget b ∷ []
slots ChoicesEnd = word (codes "]") ∷ []
slots (Binary x op fs t a b) = result x (opcode.Bin op) (slot (Flags (bin_flags op)) fs ∷ slot (OfKind kind.Number) t ∷ slot (Bare t) a ∷ slot (Other t) b ∷ [])
slots (Compare x fs p t a b) = result x opcode.Icmp (slot (Flags SameSign) fs ∷ slot Comparison p ∷ slot (OfKind kind.Number) t ∷ slot (Bare t) a ∷ slot (Other t) b ∷ [])
slots (Convert x op fs a u) = result x (opcode.Cast op) (slot (Flags (cast_flags op)) fs ∷ slot (Typed kind.Number) a ∷ word (codes "to") ∷ slot (OfKind (cast_kind op a.ty)) u ∷ [])
slots (Select x c a b) = result x opcode.Select (slot (Typed kind.Choice) c ∷ slot (Also (kind.ChosenBy c.ty)) a ∷ slot (Also (kind.Same a.ty)) b ∷ [])
slots (Extract x a i) = result x opcode.Extract (slot (Typed kind.Vector) a ∷ slot (Also kind.Integer) i ∷ [])
slots (Insert x a b i) = result x opcode.Insert (slot (Typed kind.Vector) a ∷ slot (Also (kind.LaneOf a.ty)) b ∷ slot (Also kind.Integer) i ∷ [])
slots (Shuffle x a b m) = result x opcode.Shuffle (slot (Typed kind.Vector) a ∷ slot (Also (kind.Same a.ty)) b ∷ slot (Mask a.ty) m ∷ [])
slots (Step x fs e p i) = result x opcode.Gep (slot (Flags Address) fs ∷ slot (Element kind.Byte) e ∷ slot (Also kind.Pointer) p ∷ slot (Also kind.Integer) i ∷ [])
slots (StepInto x fs n w p i j) =
    result x opcode.Gep (slot (Flags Address) fs ∷ slot (Element kind.Byte) (Array n w) ∷ slot (Also kind.Pointer) p ∷ slot (Also kind.Integer) i ∷ slot (Also kind.Integer) j ∷ [])
slots (Load x t p n) = result x opcode.Load (slot (OfKind kind.Stored) t ∷ slot (Also kind.Pointer) p ∷ slot Aligned n ∷ [])
slots (Allocate x e n) = result x opcode.Alloca (slot (Element kind.Stored) e ∷ slot Aligned n ∷ [])
slots (Phi x t i) = result x opcode.Phi (slot (OfKind kind.Value) t ∷ slot (Pairs t) i ∷ [])
slots (Store a p n) = slot ActCode act.Store ∷ slot (Typed kind.Stored) a ∷ slot (Also kind.Pointer) p ∷ slot Aligned n ∷ []
slots Return = slot ActCode act.Ret ∷ word (codes "void") ∷ []
slots (ReturnValue a) = slot ActCode act.Ret ∷ slot (Typed kind.Value) a ∷ []
slots (Jump b) = slot ActCode act.Br ∷ slot Target b ∷ []
slots (Branch c a b) = slot ActCode act.Br ∷ slot (Typed kind.Bit) c ∷ slot AlsoTarget a ∷ slot AlsoTarget b ∷ []
slots (Switch a d) = slot ActCode act.Switch ∷ slot (Typed kind.Integer) a ∷ slot AlsoTarget d ∷ word (codes "[") ∷ []
slots Unreachable = slot ActCode act.Unreachable ∷ []

-- these parts, one after the other, are the words
abbrev pub Spell : List Slot → Words → Type 0
Spell [] ts = ts ≡ []
Spell (s ∷ ss) ts = (rest : Words) × Takes s.piece s.value ts rest × Spell ss rest

-- the trees

unfoldable pub binary : List ℕ → BinOp → Grammar Form
binary x op = do
  fs ← Flags (bin_flags op)
  t ← OfKind kind.Number
  a ← Bare t
  b ← Other t
  Done (Binary x op fs t a b)

unfoldable pub compare : List ℕ → Grammar Form
compare x = do
  fs ← Flags SameSign
  p ← Comparison
  t ← OfKind kind.Number
  a ← Bare t
  b ← Other t
  Done (Compare x fs p t a b)

unfoldable pub convert : List ℕ → CastOp → Grammar Form
convert x op = do
  fs ← Flags (cast_flags op)
  a ← Typed kind.Number
  Word (codes "to")
  u ← OfKind (cast_kind op a.ty)
  Done (Convert x op fs a u)

unfoldable pub select : List ℕ → Grammar Form
select x = do
  c ← Typed kind.Choice
  a ← Also (kind.ChosenBy c.ty)
  b ← Also (kind.Same a.ty)
  Done (Select x c a b)

unfoldable pub extract : List ℕ → Grammar Form
extract x = do
  a ← Typed kind.Vector
  i ← Also kind.Integer
  Done (Extract x a i)

unfoldable pub insert : List ℕ → Grammar Form
insert x = do
  a ← Typed kind.Vector
  b ← Also (kind.LaneOf a.ty)
  i ← Also kind.Integer
  Done (Insert x a b i)

unfoldable pub shuffle : List ℕ → Grammar Form
shuffle x = do
  a ← Typed kind.Vector
  b ← Also (kind.Same a.ty)
  m ← Mask a.ty
  Done (Shuffle x a b m)

unfoldable pub stepped : List ℕ → Words → Elem → Arg → Arg → Grammar Form
stepped x fs (One t) p i = Done (Step x fs (One t) p i)
stepped x fs (Array n w) p i = Or (Also kind.Integer) (λ j. Done (StepInto x fs n w p i j)) (Done (Step x fs (Array n w) p i))

-- what the code calls after an array
abbrev pub into_array : List ℕ → Op → Arg → Arg → Words → Option Line
into_array x op p i ts = choose (next_typed_at kind.Integer ts) (λ j. ends (gives x Ptr op (p ∷ i ∷ j.0 ∷ [])) j.1) (ends (gives x Ptr op (p ∷ i ∷ [])) ts)

unfoldable pub step : List ℕ → Grammar Form
step x = do
  fs ← Flags Address
  e ← Element kind.Byte
  p ← Also kind.Pointer
  i ← Also kind.Integer
  stepped x fs e p i

unfoldable pub load : List ℕ → Grammar Form
load x = do
  t ← OfKind kind.Stored
  p ← Also kind.Pointer
  n ← Aligned
  Done (Load x t p n)

unfoldable pub allocate : List ℕ → Grammar Form
allocate x = do
  e ← Element kind.Stored
  n ← Aligned
  Done (Allocate x e n)

unfoldable pub phi : List ℕ → Grammar Form
phi x = do
  t ← OfKind kind.Value
  i ← Pairs t
  Done (Phi x t i)

unfoldable pub by_code : List ℕ → Opcode → Grammar Form
by_code x (opcode.Bin op) = binary x op
by_code x (opcode.Cast op) = convert x op
by_code x opcode.Icmp = compare x
by_code x opcode.Select = select x
by_code x opcode.Extract = extract x
by_code x opcode.Insert = insert x
by_code x opcode.Shuffle = shuffle x
by_code x opcode.Gep = step x
by_code x opcode.Load = load x
by_code x opcode.Alloca = allocate x
by_code x opcode.Phi = phi x

unfoldable pub value_line : List ℕ → Grammar Form
value_line x = do
  Word (codes "=")
  op ← Code
  by_code x op

unfoldable pub store : Grammar Form
store = do
  a ← Typed kind.Stored
  p ← Also kind.Pointer
  n ← Aligned
  Done (Store a p n)

unfoldable pub return_value : Grammar Form
return_value = do
  a ← Typed kind.Value
  Done (ReturnValue a)

unfoldable pub returns : Grammar Form
returns = Or (Word (codes "void")) (λ _. Done Return) return_value

unfoldable pub branch : Grammar Form
branch = do
  c ← Typed kind.Bit
  a ← AlsoTarget
  b ← AlsoTarget
  Done (Branch c a b)

unfoldable pub jump : Grammar Form
jump = Or Target (λ b. Done (Jump b)) branch

unfoldable pub switch : Grammar Form
switch = do
  a ← Typed kind.Integer
  d ← AlsoTarget
  Word (codes "[")
  Done (Switch a d)

unfoldable pub by_act : Act → Grammar Form
by_act act.Store = store
by_act act.Ret = returns
by_act act.Br = jump
by_act act.Switch = switch
by_act act.Unreachable = Done Unreachable

unfoldable pub choice : Grammar Form
choice = do
  t ← OfKind kind.Integer
  n ← Case t
  b ← AlsoTarget
  Done (Choice t n b)

unfoldable pub choices : Grammar Form
choices = Or (Word (codes "]")) (λ _. Done ChoicesEnd) choice

unfoldable pub act_line : Grammar Form
act_line = Or ActCode by_act choices

unfoldable pub plain_line : Grammar Form
plain_line = Or Labelled (λ name. Done (Label name)) act_line

-- any form: after `%x` those with a result
unfoldable pub form : Grammar Form
form = Or Name value_line plain_line
