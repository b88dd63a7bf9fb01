-- Small drafts and what they are, computed by the definitions.
use Rattle.std.specs.Prelude.{◌≡◌, refl, ℕ, false, Option, None, Some, Ok, Err, List, [], ◌∷◌, codes}
use Rattle.std.specs.Fmt.{digits}
use Rattle.ir_types.specs.declared.ty.Ty.{Ty}
use Rattle.ir_types.specs.declared.ty.Ty.TheVariants.{Void, Int}
use Rattle.ir_types.specs.declared.op.Op.{Op}
use Rattle.ir_types.specs.declared.op.Op.TheVariants.{Phi, Ret, Br, CondBr}
use Rattle.ir_types.specs.declared.opd.Opd.TheVariants.{Val, Lit}
use Rattle.ir_types.specs.declared.literal.Literal.{Literal}
use Rattle.ir_types.specs.declared.func.Param.{Param}
use Rattle.ir_types.specs.declared.module.Item.TheVariants.{Func as FuncItem}
use Rattle.ir_draft.specs.declared.written.Written.TheVariants as written
use Rattle.ir_draft.specs.declared.written.Arg.{Arg}
use Rattle.ir_draft.specs.declared.line.Line.{Line}
use Rattle.ir_draft.specs.declared.line.Line.TheVariants.{Label, Stmt}
use Rattle.ir_draft.specs.declared.draft.Numbered.{Numbered}
use Rattle.ir_draft.specs.declared.draft.Draft.{Draft}
use Rattle.ir_draft.specs.declared.draft.DraftItem.{DraftItem}
use Rattle.ir_draft.specs.declared.draft.DraftItem.TheVariants.{Func}
use Rattle.ir_types_check.specs.declared.refusal.ResolveRefusal.TheVariants.{TwiceDefined, Unknown, IllTyped}
use Rattle.ir_types_check.specs.Scope.{define}
use Rattle.ir_types_check.specs.Outline.{opened, past_param, after_label, after_inst}
use Rattle.ir_types_check.specs.Locals.{with_name, with_param, with_label, with_opened, with_stmt, locals_of}
use Rattle.ir_types_check.specs.Tops.{with_top, with_function}
use Rattle.ir_types_check.specs.Links.{in_order, with_pair}
use Rattle.ir_types_check.specs.Blocks.{inst_of, with_inst, labelled, with_statement, built_of}
use Rattle.ir_types_check.specs.Typed.{function_typed}
use Rattle.ir_types_check.specs.Resolved.{with_built, resolved_function, module_of, resolved_with, resolved_of}

-- ---- lines

abbrev at : ℕ → Line → Numbered
at n form = record { line = n; form = form }

abbrev stmt : Option (List ℕ) → Ty → Op → List Arg → List (List ℕ) → Line
stmt result ty op args labels = Stmt (record { result = result; ty = ty; op = op; args = args; labels = labels })

abbrev local : Ty → List ℕ → Arg
local ty name = record { ty = ty; opd = written.Local name }

abbrev one : Arg
one = record { ty = Int 32; opd = written.Lit (record { ty = Int 32; lanes = Some 1 ∷ [] }) }

abbrev ret : ℕ → Numbered
ret n = at n (stmt None Void Ret [] [])

abbrev bit : Param
bit = record { id = record { region = 0; k = 0 }; name = Some (codes "c"); ty = Int 1; attrs = []; noalias = false }

-- a function that returns nothing
abbrev func : ℕ → List ℕ → List Param → List Numbered → DraftItem
func n name params body = Func n (record { before = []; ret = Void; name = name; params = params; after = [] }) body

abbrev one_func : List Numbered → Draft
one_func body = record { items = func 1 (codes "f") (bit ∷ []) body ∷ [] }

-- ---- refusals

-- an empty draft is an empty module
nothing : resolved_of (record { items = [] }) ≡ Ok (record { «module» = record { items = []; globals = []; big_endian_line = None }; lines = [] })
unfolding digits resolved_of resolved_with module_of
nothing = refl

-- two functions of one name
same_name : resolved_of (record { items = func 1 (codes "f") [] (ret 2 ∷ []) ∷ func 4 (codes "f") [] (ret 5 ∷ []) ∷ [] }) ≡ Err (TwiceDefined 4 (codes "@f"))
unfolding digits resolved_of define with_name with_opened with_stmt locals_of with_top with_function opened after_inst
same_name = refl

-- a label of a parameter's name, in front of an unknown one
label_twice : resolved_of (one_func (at 2 (stmt None Void (Br 0) [] (codes "x" ∷ [])) ∷ at 3 (Label (codes "c")) ∷ ret 4 ∷ [])) ≡ Err (TwiceDefined 3 (codes "%c"))
unfolding digits resolved_of define with_name with_param with_label with_opened with_stmt locals_of with_top with_function opened past_param after_label after_inst
label_twice = refl

-- a value used as a label is unknown
value_as_label : resolved_of (one_func (at 2 (stmt None Void (Br 0) [] (codes "c" ∷ [])) ∷ [])) ≡ Err (Unknown 2 (codes "%c"))
unfolding digits resolved_of resolved_with resolved_function define with_name with_param with_opened with_stmt locals_of with_top with_function opened past_param after_inst built_of with_statement inst_of in_order
value_as_label = refl

-- a branch to the first block, which is known by its number
to_the_first : resolved_of (one_func (at 2 (stmt None Void (Br 0) [] (codes "0" ∷ [])) ∷ [])) ≡ Err (IllTyped 2)
unfolding digits resolved_of resolved_with resolved_function define with_name with_param with_opened with_stmt locals_of with_top with_function opened past_param after_inst built_of with_statement inst_of in_order with_inst with_built function_typed
to_the_first = refl

-- two edges to one block, and a phi with these pairs of 1 and the first block
abbrev joined : List Arg → List (List ℕ) → List ℕ → Draft
joined args labels places =
    one_func
    (at 2 (stmt None Void (CondBr 0 1) (local (Int 1) (codes "c") ∷ []) (codes "b" ∷ codes "b" ∷ []))
    ∷ at 3 (Label (codes "b"))
    ∷ at 4 (stmt (Some (codes "x")) (Int 32) (Phi places) args labels)
    ∷ ret 5
    ∷ [])

-- one pair for two edges
a_pair_missing : resolved_of (joined (one ∷ []) (codes "0" ∷ []) (0 ∷ [])) ≡ Err (IllTyped 4)
unfolding digits resolved_of resolved_with resolved_function define with_name with_param with_label with_opened with_stmt locals_of with_top with_function opened past_param after_label after_inst built_of with_statement inst_of in_order with_pair with_inst labelled with_built function_typed
a_pair_missing = refl

-- two
abbrev literal : Literal
literal = record { ty = Int 32; lanes = Some 1 ∷ [] }

two_pairs : resolved_of (joined (one ∷ one ∷ []) (codes "0" ∷ codes "0" ∷ []) (0 ∷ 1 ∷ [])) ≡ Ok (record {
  «module» = record {
    items =
        FuncItem (record {
          before = [];
          ret = Void;
          name = codes "f";
          params = bit ∷ [];
          after = [];
          blocks =
              record { name = None; insts = record { id = record { region = 0; k = 1 }; name = None; ty = Void; op = CondBr 1 1; opds = Val (record { region = 0; k = 0 }) ∷ [] } ∷ [] }
              ∷ record {
                name = Some (codes "b");
                insts =
                    record { id = record { region = 0; k = 2 }; name = Some (codes "x"); ty = Int 32; op = Phi (0 ∷ 0 ∷ []); opds = Lit literal ∷ Lit literal ∷ [] }
                    ∷ record { id = record { region = 0; k = 3 }; name = None; ty = Void; op = Ret; opds = [] }
                    ∷ [];
              }
              ∷ [];
        })
        ∷ [];
    globals = [];
    big_endian_line = None;
  };
  lines = 1 ∷ 2 ∷ 4 ∷ 5 ∷ [];
})
unfolding digits resolved_of resolved_with resolved_function define with_name with_param with_label with_opened with_stmt locals_of with_top with_function opened past_param after_label after_inst built_of with_statement inst_of in_order with_pair with_inst labelled with_built module_of function_typed
two_pairs = refl
