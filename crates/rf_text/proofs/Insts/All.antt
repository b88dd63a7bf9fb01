-- Each instruction but a call is read again as it is printed.
use Rattle.std.proofs.Common.{ℕ, true, List, Option, refl}
use Rattle.ir_types.specs.declared.id.Id.{Id}
use Rattle.ir_types.specs.declared.ty.Ty.{Ty}
use Rattle.ir_types.specs.declared.opd.Opd.{Opd}
use Rattle.ir_types.specs.declared.op.Op.{Op}
use Rattle.ir_types.specs.declared.op.Op.TheVariants as ops
use Rattle.ir_types.specs.declared.inst.Inst.{Inst}
use Rattle.ir_lex.proofs.Classes.{clash}
use Rattle.ir_print.specs.Names.{Names}
use Rattle.ir_print.specs.Instructions.{inst_text}
use Rattle.rf_text.specs.Shown.{Shown, Fits}
use Rattle.rf_text.specs.Written.{forms_of}
use Rattle.rf_text.specs.Printed.{Printed, IsReadAgain}
use Rattle.rf_text.proofs.Insts.Each.{inst}
use Rattle.rf_text.proofs.Insts.Flow.{phi_line, ret_line, jump_line, branch_line, unreachable_line}
use Rattle.rf_text.proofs.Insts.Memory.{load_line, store_line, alloca_line}
use Rattle.rf_text.proofs.Insts.Steps.{step_line}
use Rattle.rf_text.proofs.Insts.Switch.{switch_line}
use Rattle.rf_text.proofs.Insts.Values.{bin_line, icmp_line, cast_line}
use Rattle.rf_text.proofs.Insts.Vectors.{select_line, extract_line, insert_line, shuffle_line}

by_op : (ret : Ty) (ns : Names) (gs : List (List ℕ)) → Shown ns gs → (id : Id) (name : Option (List ℕ)) (ty : Ty) (op : Op) (os : List Opd) → Fits ret ns gs (inst id name ty op os) → IsReadAgain ns gs (inst id name ty op os)
by_op ret ns gs shown id name ty (ops.Bin op flags) os fits = bin_line ns gs shown ret id name ty op flags os fits
by_op ret ns gs shown id name ty (ops.Icmp pred) os fits = icmp_line ns gs shown ret id name ty pred os fits
by_op ret ns gs shown id name ty (ops.Cast op nneg) os fits = cast_line ns gs shown ret id name ty op nneg os fits
by_op ret ns gs shown id name ty ops.Select os fits = select_line ns gs shown ret id name ty os fits
by_op ret ns gs shown id name ty ops.Extract os fits = extract_line ns gs shown ret id name ty os fits
by_op ret ns gs shown id name ty ops.Insert os fits = insert_line ns gs shown ret id name ty os fits
by_op ret ns gs shown id name ty (ops.Shuffle mask) os fits = shuffle_line ns gs shown ret id name ty mask os fits
by_op ret ns gs shown id name ty (ops.Gep elem inbounds) os fits = step_line ns gs shown ret id name ty elem inbounds os fits
by_op ret ns gs shown id name ty (ops.Load align) os fits = load_line ns gs shown ret id name ty align os fits
by_op ret ns gs shown id name ty (ops.Store align) os fits = store_line ns gs shown ret id name ty align os fits
by_op ret ns gs shown id name ty (ops.Alloca elem align) os fits = alloca_line ns gs shown ret id name ty elem align os fits
by_op ret ns gs shown id name ty (ops.Phi blocks) os fits = phi_line ns gs shown ret id name ty blocks os fits
by_op ret ns gs shown id name ty ops.Ret os fits = ret_line ns gs shown ret id name ty os fits
by_op ret ns gs shown id name ty (ops.Br to) os fits = jump_line ns gs shown ret id name ty to os fits
by_op ret ns gs shown id name ty (ops.CondBr first second) os fits = branch_line ns gs shown ret id name ty first second os fits
by_op ret ns gs shown id name ty (ops.Switch other cases to) os fits = switch_line ns gs shown ret id name ty other cases to os fits
by_op ret ns gs shown id name ty ops.Unreachable os fits = unreachable_line ns gs shown ret id name ty os fits
by_op ret ns gs shown id name ty (ops.Call site) os fits = clash true fits.other refl

pub inst_printed : (ret : Ty) (ns : Names) (gs : List (List ℕ)) (i : Inst) → Shown ns gs → Fits ret ns gs i → Printed (inst_text ns gs i) (forms_of ns gs i)
inst_printed ret ns gs i shown fits = by_op ret ns gs shown i.id i.name i.ty i.op i.opds fits
