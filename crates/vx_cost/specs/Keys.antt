-- The twenty keys of a table of costs: their places, and their names in settings.
use Rattle.std.specs.Prelude.{ℕ, List, codes}
use Rattle.vx_cost.specs.declared.key.Key.{Key}
use Rattle.vx_cost.specs.declared.key.Key.TheVariants.{Int, Vint, Mul, Vmul, Div, Vdiv, Cmp, Vcmp, Cast, Vcast, Select, Vselect, Load, Vload, Store, Vstore, Addr, Insert, Extract, Shuffle}

-- the place of a key's cost in a table
abbrev pub place_of : Key → ℕ
place_of Int = 0
place_of Vint = 1
place_of Mul = 2
place_of Vmul = 3
place_of Div = 4
place_of Vdiv = 5
place_of Cmp = 6
place_of Vcmp = 7
place_of Cast = 8
place_of Vcast = 9
place_of Select = 10
place_of Vselect = 11
place_of Load = 12
place_of Vload = 13
place_of Store = 14
place_of Vstore = 15
place_of Addr = 16
place_of Insert = 17
place_of Extract = 18
place_of Shuffle = 19

-- the name of a key in a setting
abbrev pub name_of : Key → List ℕ
name_of Int = codes "int"
name_of Vint = codes "vint"
name_of Mul = codes "mul"
name_of Vmul = codes "vmul"
name_of Div = codes "div"
name_of Vdiv = codes "vdiv"
name_of Cmp = codes "cmp"
name_of Vcmp = codes "vcmp"
name_of Cast = codes "cast"
name_of Vcast = codes "vcast"
name_of Select = codes "select"
name_of Vselect = codes "vselect"
name_of Load = codes "load"
name_of Vload = codes "vload"
name_of Store = codes "store"
name_of Vstore = codes "vstore"
name_of Addr = codes "addr"
name_of Insert = codes "insert"
name_of Extract = codes "extract"
name_of Shuffle = codes "shuffle"
