-- Keywords: their places in bytewise order, and their texts.
use Rattle.std.specs.Prelude.{ℕ, List, [], ◌∷◌, codes, map}
use Rattle.code_tables.specs.declared.words.Keyword.{Keyword}
use Rattle.code_tables.specs.declared.words.Keyword.TheVariants.{Break, Case, Chan, Const, Continue, Default, Defer}
use Rattle.code_tables.specs.declared.words.Keyword.TheVariants.{Else, Fallthrough, For, Func, Go, Goto, If, Import}
use Rattle.code_tables.specs.declared.words.Keyword.TheVariants.{Interface, Map, Package, Range, Return, Select}
use Rattle.code_tables.specs.declared.words.Keyword.TheVariants.{Struct, Switch, «Type», Var}

-- the code
abbrev pub keyword_code : Keyword → ℕ
keyword_code Break = 0
keyword_code Case = 1
keyword_code Chan = 2
keyword_code Const = 3
keyword_code Continue = 4
keyword_code Default = 5
keyword_code Defer = 6
keyword_code Else = 7
keyword_code Fallthrough = 8
keyword_code For = 9
keyword_code Func = 10
keyword_code Go = 11
keyword_code Goto = 12
keyword_code If = 13
keyword_code Import = 14
keyword_code Interface = 15
keyword_code Map = 16
keyword_code Package = 17
keyword_code Range = 18
keyword_code Return = 19
keyword_code Select = 20
keyword_code Struct = 21
keyword_code Switch = 22
keyword_code «Type» = 23
keyword_code Var = 24

-- the place in the table, from 0
abbrev pub keyword_number : Keyword → ℕ
keyword_number Break = 0
keyword_number Case = 1
keyword_number Chan = 2
keyword_number Const = 3
keyword_number Continue = 4
keyword_number Default = 5
keyword_number Defer = 6
keyword_number Else = 7
keyword_number Fallthrough = 8
keyword_number For = 9
keyword_number Func = 10
keyword_number Go = 11
keyword_number Goto = 12
keyword_number If = 13
keyword_number Import = 14
keyword_number Interface = 15
keyword_number Map = 16
keyword_number Package = 17
keyword_number Range = 18
keyword_number Return = 19
keyword_number Select = 20
keyword_number Struct = 21
keyword_number Switch = 22
keyword_number «Type» = 23
keyword_number Var = 24

-- the values by their places
abbrev pub keyword_values : List Keyword
keyword_values =
    Break ∷ Case ∷ Chan ∷ Const ∷ Continue ∷ Default ∷ Defer ∷ Else ∷ Fallthrough ∷ For ∷ Func ∷ Go ∷ Goto ∷ If ∷
    Import ∷ Interface ∷ Map ∷ Package ∷ Range ∷ Return ∷ Select ∷ Struct ∷ Switch ∷ «Type» ∷ Var ∷ []

-- the text
abbrev pub keyword_text : Keyword → List ℕ
keyword_text Break = codes "break"
keyword_text Case = codes "case"
keyword_text Chan = codes "chan"
keyword_text Const = codes "const"
keyword_text Continue = codes "continue"
keyword_text Default = codes "default"
keyword_text Defer = codes "defer"
keyword_text Else = codes "else"
keyword_text Fallthrough = codes "fallthrough"
keyword_text For = codes "for"
keyword_text Func = codes "func"
keyword_text Go = codes "go"
keyword_text Goto = codes "goto"
keyword_text If = codes "if"
keyword_text Import = codes "import"
keyword_text Interface = codes "interface"
keyword_text Map = codes "map"
keyword_text Package = codes "package"
keyword_text Range = codes "range"
keyword_text Return = codes "return"
keyword_text Select = codes "select"
keyword_text Struct = codes "struct"
keyword_text Switch = codes "switch"
keyword_text «Type» = codes "type"
keyword_text Var = codes "var"

-- the texts in the order of the codes
abbrev pub keyword_texts : List (List ℕ)
keyword_texts = map keyword_text keyword_values
