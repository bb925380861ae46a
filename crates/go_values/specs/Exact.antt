-- `==` holds of equal values alone: what a map that is keyed by these types, or by types that are made of
-- them, may conclude from it.
use Rattle.std.proofs.Common.{◌≡◌, ℕ, List, true, ◌&&◌, refl, ap}
use Rattle.std.specs.Prelude.{nat_eq}
use Rattle.std.specs.Cmp.Lexicographic.{pointwise, bytes_decides}
use Rattle.std.specs.Cmp.{booleans_Decides}
use Rattle.std.proofs.lemmas.Bool.{and_parts, eqb-true}
use Rattle.std.proofs.lemmas.Bool.Decides.{Decides-int_eq}
use Rattle.go_values.specs.declared.qualified.QName.{QName}
use Rattle.go_values.specs.contracts.qualified.QNamePartialEq.TheImpl as qname_eq
use Rattle.go_values.specs.declared.positions.Pos.{Pos}
use Rattle.go_values.specs.declared.positions.Pos.TheVariants.{Nowhere, At}
use Rattle.go_values.specs.contracts.positions.PosPartialEq.TheImpl as pos_eq
use Rattle.go_values.specs.declared.constants.Const.{Const}
use Rattle.go_values.specs.declared.constants.Const.TheVariants.{Bool as Truth, Int, Str}
use Rattle.go_values.specs.contracts.constants.ConstPartialEq.TheImpl as const_eq
use Rattle.go_values.specs.declared.source_files.FileInfo.{FileInfo}
use Rattle.go_values.specs.contracts.source_files.FileInfoPartialEq.TheImpl as file_eq

pub exact_bytes : (left right : List ℕ) → pointwise nat_eq left right ≡ true → left ≡ right
exact_bytes left right h = (bytes_decides left right).0 h

pub exact_qname : (left right : QName) → qname_eq.ghosts.eq left right ≡ true → left ≡ right
exact_qname left right h =
    let parts = and_parts (pointwise nat_eq left.path right.path) (pointwise nat_eq left.name right.name) h in
    let path = exact_bytes left.path right.path parts.0 in
    let name = exact_bytes left.name right.name parts.1 in
    λ i. record { path = path i; name = name i }

pub exact_pos : (left right : Pos) → pos_eq.ghosts.eq left right ≡ true → left ≡ right
exact_pos Nowhere Nowhere h = refl
exact_pos (At file line column) (At file' line' column') h =
    let parts = and_parts (pointwise nat_eq file file') (nat_eq line line' && nat_eq column column') h in
    let numbers = and_parts (nat_eq line line') (nat_eq column column') parts.1 in
    let same_file : file ≡ file' = exact_bytes file file' parts.0 in
    let same_line : line ≡ line' = eqb-true line line' numbers.0 in
    let same_column : column ≡ column' = eqb-true column column' numbers.1 in
    cc
exact_pos _ _ h = cc

pub exact_const : (left right : Const) → const_eq.ghosts.eq left right ≡ true → left ≡ right
exact_const (Truth x) (Truth y) h = ap Truth ((booleans_Decides x y).0 h)
exact_const (Int x) (Int y) h = ap Int ((Decides-int_eq x y).0 h)
exact_const (Str x) (Str y) h = ap Str (exact_bytes x y h)
exact_const _ _ h = cc

pub exact_file : (left right : FileInfo) → file_eq.ghosts.eq left right ≡ true → left ≡ right
exact_file left right h =
    let parts = and_parts (pointwise nat_eq left.name right.name)
    (nat_eq left.size right.size && pointwise nat_eq left.lines right.lines) h in
    let numbers = and_parts (nat_eq left.size right.size) (pointwise nat_eq left.lines right.lines) parts.1 in
    let name = exact_bytes left.name right.name parts.0 in
    let size = eqb-true left.size right.size numbers.0 in
    let lines = exact_bytes left.lines right.lines numbers.1 in
    λ i. record { name = name i; size = size i; lines = lines i }
