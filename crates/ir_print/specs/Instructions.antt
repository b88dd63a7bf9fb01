-- Instructions as they are printed: one definition a form, with one space between tokens, none before a comma or inside `(`.
-- A form whose operands are missing is printed without them. The Language Reference has the forms under "Instruction Reference".
use Rattle.std.specs.Prelude.{ℕ, Bool, true, false, Option, Some, None, List, [], ◌∷◌, ◌++◌, codes, length, slice_get}
use Rattle.std.specs.Fmt.{decimal}
use Rattle.vx_digits.specs.Lanes.{lane_text}
use Rattle.vx_num.specs.declared.operations.BinOp.{BinOp}
use Rattle.vx_num.specs.declared.operations.BinOp.TheVariants.{Add, Sub, Mul, Shl, Udiv, Sdiv, Urem, Srem, Lshr, Ashr, And, Or, Xor}
use Rattle.vx_num.specs.declared.operations.Pred.{Pred}
use Rattle.vx_num.specs.declared.operations.Pred.TheVariants.{Eq, Ne, Ugt, Uge, Ult, Ule, Sgt, Sge, Slt, Sle}
use Rattle.vx_num.specs.declared.operations.CastOp.{CastOp}
use Rattle.vx_num.specs.declared.operations.CastOp.TheVariants.{Zext, Sext, Trunc}
use Rattle.vx_num.specs.declared.operations.Flags.{Flags}
use Rattle.vx_num.specs.Keywords.{bin_word, cast_word, pred_word}
use Rattle.ir_types.specs.declared.ty.Ty.{Ty}
use Rattle.ir_types.specs.declared.ty.Ty.TheVariants.{Void, Int, Ptr, Row}
use Rattle.ir_types.specs.declared.ty.Elem.{Elem}
use Rattle.ir_types.specs.declared.opd.Opd.{Opd}
use Rattle.ir_types.specs.declared.op.Op.{Op}
use Rattle.ir_types.specs.declared.op.Op.TheVariants.{Bin, Icmp, Cast, Select, Extract, Insert, Shuffle, Gep, Load, Store, Alloca, Phi, Ret, Br, CondBr, Switch, Unreachable, Call}
use Rattle.ir_types.specs.declared.inst.Inst.{Inst}
use Rattle.ir_print.specs.Literals.{ty_text, elem_text, vector_text}
use Rattle.ir_print.specs.Names.{Names, local_of, is_store, is_void}
use Rattle.ir_print.specs.Operands.{spaced, local_text, bare_at, typed_at, ty_at, opd_text, opd_ty, typed_text, block_text, label_text}

-- a word after a space, where its flag is set
abbrev pub flag_text : Bool → List ℕ → List ℕ
flag_text true word = codes " " ++ word
flag_text false word = []

abbrev pub wrap_flags : Flags → List ℕ
wrap_flags f = flag_text f.nuw (codes "nuw") ++ flag_text f.nsw (codes "nsw")

-- the flags that an operation can have
abbrev pub flags_text : BinOp → Flags → List ℕ
flags_text Add f = wrap_flags f
flags_text Sub f = wrap_flags f
flags_text Mul f = wrap_flags f
flags_text Shl f = wrap_flags f
flags_text Udiv f = flag_text f.exact (codes "exact")
flags_text Sdiv f = flag_text f.exact (codes "exact")
flags_text Urem f = []
flags_text Srem f = []
flags_text Lshr f = flag_text f.exact (codes "exact")
flags_text Ashr f = flag_text f.exact (codes "exact")
flags_text And f = []
flags_text Or f = flag_text f.disjoint (codes "disjoint")
flags_text Xor f = []

-- parts that name nothing

-- the mask is a vector of as many numbers of 32 bits as it has entries
abbrev pub mask_text : List (Option ℕ) → List ℕ
mask_text mask = codes "<" ++ (decimal (length mask) ++ (codes " x i32> " ++ vector_text 32 mask))

-- a `getelementptr` up to its operands
abbrev pub stepped_text : Elem → Bool → List ℕ
stepped_text e inbounds = codes "getelementptr" ++ (flag_text inbounds (codes "inbounds") ++ (codes " " ++ elem_text e))

-- an `alloca`, with its align where that was given
-- an align, after a comma
abbrev pub align_text : ℕ → List ℕ
align_text n = codes ", align " ++ decimal n

abbrev pub given_align : Option ℕ → List ℕ
given_align None = []
given_align (Some n) = align_text n

abbrev pub alloca_text : Elem → Option ℕ → List ℕ
alloca_text e align = codes "alloca " ++ (elem_text e ++ given_align align)

-- the width of the number that a `switch` looks at
abbrev pub width_of : Ty → ℕ
width_of (Int w) = w
width_of _ = 0

-- the word in front of a call
abbrev pub tail_text : List ℕ → List ℕ
tail_text [] = []
tail_text (b ∷ bs) = (b ∷ bs) ++ codes " "

-- a call up to its arguments
abbrev pub callee_text : List ℕ → Ty → List ℕ → List ℕ
callee_text pre ty callee = codes "call" ++ (spaced pre ++ (codes " " ++ (ty_text ty ++ (codes " @" ++ (callee ++ codes "(")))))

-- parts of a `switch`

abbrev pub switch_width : Names → Option Opd → ℕ
switch_width ns None = 0
switch_width ns (Some o) = width_of (opd_ty ns o)

abbrev pub case_text : Names → ℕ → Option ℕ → ℕ → List ℕ
case_text ns w n b = codes "    i" ++ (decimal w ++ (codes " " ++ (lane_text w n ++ (codes ", " ++ (label_text ns b ++ codes "\n")))))

abbrev pub cases_text : Names → ℕ → List (Option ℕ) → List ℕ → List ℕ
cases_text ns w [] bs = []
cases_text ns w (n ∷ ms) [] = []
cases_text ns w (n ∷ ms) (b ∷ bs) = case_text ns w n b ++ cases_text ns w ms bs

-- the result with its `=`, where there is one
abbrev pub result_text : Names → Bool → Bool → Inst → List ℕ
result_text ns false false i = local_text (local_of i.id ns.locals) ++ codes " = "
result_text ns _ _ i = []

-- value operations

module _ (ns : Names) (gs : List (List ℕ)) where
  abbrev pub two_text : List Opd → List ℕ
  two_text os = bare_at ns gs (slice_get os 0) ++ (codes ", " ++ bare_at ns gs (slice_get os 1))

  abbrev pub two_typed : List Opd → List ℕ
  two_typed os = typed_at ns gs (slice_get os 0) ++ (codes ", " ++ typed_at ns gs (slice_get os 1))

  abbrev pub bin_text : BinOp → Flags → Ty → List Opd → List ℕ
  bin_text op f ty os = bin_word op ++ (flags_text op f ++ (codes " " ++ (ty_text ty ++ (codes " " ++ two_text os))))

  abbrev pub icmp_text : Pred → List Opd → List ℕ
  icmp_text p os = codes "icmp " ++ (pred_word p ++ (codes " " ++ (ty_at ns (slice_get os 0) ++ (codes " " ++ two_text os))))

  abbrev pub cast_text : CastOp → Bool → Ty → List Opd → List ℕ
  cast_text op nneg ty os = cast_word op ++ (flag_text nneg (codes "nneg") ++ (codes " " ++ (typed_at ns gs (slice_get os 0) ++ (codes " to " ++ ty_text ty))))

  abbrev pub three_typed : List Opd → List ℕ
  three_typed os = two_typed os ++ (codes ", " ++ typed_at ns gs (slice_get os 2))

  -- a `shufflevector` up to its mask
  abbrev pub shuffled_text : List Opd → List ℕ
  shuffled_text os = codes "shufflevector " ++ (two_typed os ++ codes ", ")

  abbrev pub shuffle_text : List (Option ℕ) → List Opd → List ℕ
  shuffle_text mask os = shuffled_text os ++ mask_text mask

  -- operations on memory

  abbrev pub indices_text : List Opd → List ℕ
  indices_text [] = []
  indices_text (o ∷ os) = codes ", " ++ (typed_text ns gs o ++ indices_text os)

  abbrev pub gep_text : Elem → Bool → List Opd → List ℕ
  gep_text e inbounds os = stepped_text e inbounds ++ indices_text os

  abbrev pub load_text : ℕ → Ty → List Opd → List ℕ
  load_text align ty os = codes "load " ++ (ty_text ty ++ (codes ", ptr " ++ (bare_at ns gs (slice_get os 0) ++ align_text align)))

  abbrev pub store_text : ℕ → Ty → List Opd → List ℕ
  store_text align ty os = codes "store " ++ (ty_text ty ++ (codes " " ++ (bare_at ns gs (slice_get os 0) ++ (codes ", ptr " ++ (bare_at ns gs (slice_get os 1) ++ align_text align)))))

  -- operations on the flow of control

  abbrev pub pair_text : Opd → ℕ → List ℕ
  pair_text o b = codes "[ " ++ (opd_text ns gs o ++ (codes ", " ++ (block_text (slice_get ns.labels b) ++ codes " ]")))

  abbrev pub more_pairs : List Opd → List ℕ → List ℕ
  more_pairs [] bs = []
  more_pairs (o ∷ os) [] = []
  more_pairs (o ∷ os) (b ∷ bs) = codes ", " ++ (pair_text o b ++ more_pairs os bs)

  abbrev pub pairs_text : List Opd → List ℕ → List ℕ
  pairs_text [] bs = []
  pairs_text (o ∷ os) [] = []
  pairs_text (o ∷ os) (b ∷ bs) = pair_text o b ++ more_pairs os bs

  abbrev pub phi_text : List ℕ → Ty → List Opd → List ℕ
  phi_text bs ty os = codes "phi " ++ (ty_text ty ++ (codes " " ++ pairs_text os bs))

  abbrev pub ret_text : Option Opd → List ℕ
  ret_text None = codes "ret void"
  ret_text (Some o) = codes "ret " ++ typed_text ns gs o

  abbrev pub cond_text : ℕ → ℕ → List Opd → List ℕ
  cond_text b c os = codes "br i1 " ++ (bare_at ns gs (slice_get os 0) ++ (codes ", " ++ (label_text ns b ++ (codes ", " ++ label_text ns c))))

  abbrev pub switch_text : ℕ → List (Option ℕ) → List ℕ → List Opd → List ℕ
  switch_text other cases to os = codes "switch " ++ (typed_at ns gs (slice_get os 0) ++ (codes ", " ++ (label_text ns other ++ (codes " [\n" ++ (cases_text ns (switch_width ns (slice_get os 0)) cases to ++ codes "  ]")))))

  -- calls

  abbrev pub argument_text : Opd → List ℕ → List ℕ
  argument_text o attrs = ty_text (opd_ty ns o) ++ (spaced attrs ++ (codes " " ++ opd_text ns gs o))

  abbrev pub more_arguments : List Opd → List (List ℕ) → List ℕ
  more_arguments [] as' = []
  more_arguments (o ∷ os) [] = []
  more_arguments (o ∷ os) (a ∷ as') = codes ", " ++ (argument_text o a ++ more_arguments os as')

  abbrev pub arguments_text : List Opd → List (List ℕ) → List ℕ
  arguments_text [] as' = []
  arguments_text (o ∷ os) [] = []
  arguments_text (o ∷ os) (a ∷ as') = argument_text o a ++ more_arguments os as'

  abbrev pub call_text : List ℕ → List ℕ → List ℕ → List (List ℕ) → List ℕ → Ty → List Opd → List ℕ
  call_text tail pre callee attrs post ty os =
      tail_text tail ++ (callee_text pre ty callee ++ (arguments_text os attrs ++ (codes ")" ++ spaced post)))

  -- what stands after the result
  abbrev pub act_text : Op → Ty → List Opd → List ℕ
  act_text (Bin op f) ty os = bin_text op f ty os
  act_text (Icmp p) ty os = icmp_text p os
  act_text (Cast op nneg) ty os = cast_text op nneg ty os
  act_text Select ty os = codes "select " ++ three_typed os
  act_text Extract ty os = codes "extractelement " ++ two_typed os
  act_text Insert ty os = codes "insertelement " ++ three_typed os
  act_text (Shuffle mask) ty os = shuffle_text mask os
  act_text (Gep e inbounds) ty os = gep_text e inbounds os
  act_text (Load align) ty os = load_text align ty os
  act_text (Store align) ty os = store_text align ty os
  act_text (Alloca e align) ty os = alloca_text e align
  act_text (Phi bs) ty os = phi_text bs ty os
  act_text Ret ty os = ret_text (slice_get os 0)
  act_text (Br b) ty os = codes "br " ++ label_text ns b
  act_text (CondBr b c) ty os = cond_text b c os
  act_text (Switch other cases to) ty os = switch_text other cases to os
  act_text Unreachable ty os = codes "unreachable"
  act_text (Call site) ty os = call_text site.tail site.pre site.callee site.attrs site.post ty os

  -- one instruction on its line, a `switch` on several
  abbrev pub inst_text : Inst → List ℕ
  inst_text i = codes "  " ++ (result_text ns (is_void i.ty) (is_store i.op) i ++ (act_text i.op i.ty i.opds ++ codes "\n"))

  abbrev pub insts_text : List Inst → List ℕ
  insts_text [] = []
  insts_text (i ∷ is) = inst_text i ++ insts_text is
