-- The laws of the readers of a block's own bytes, each for a descriptor, the head of a declaration, a list of methods and the value
-- of a constant.
use Rattle.std.proofs.Common.{◌≡◌, ℕ, ◌+◌, ◌≤◌, List, [], ◌∷◌, ◌++◌, length, map, Ok, Err, refl, sym, ap, ◌∙◌, arith, length-append}
use Rattle.std.specs.List.{flat_map}
use Rattle.std.proofs.lemmas.List.{map-append}
use Rattle.wire_bytes.specs.Reading.{Spot}
use Rattle.wire_bytes.proofs.Spellings.{IsBytes}
use Rattle.type_terms.specs.Shapes.{predeclared_of, named_of, parameter_of, alias_of, pointer_of, slice_of, array_of, chan_of, map_of, func_of, struct_of, interface_of, instance_of, union_of, sig_types}
use Rattle.decl_spelling.specs.declared.mention.Mention.{Mention}
use Rattle.decl_spelling.specs.declared.mention.Demand.{Demand}
use Rattle.decl_spelling.specs.declared.mention.Demand.TheVariants.{Any}
use Rattle.decl_spelling.specs.Sections.{Sections}
use Rattle.decl_spelling.specs.Spelled.{SpelledType, SpelledConst}
use Rattle.decl_spelling.specs.Reading.{Ahead, Stopped, start, list_at}
use Rattle.decl_spelling.specs.Descriptors.{Flat, flat_at}
use Rattle.decl_spelling.specs.Constants.{Spelling, value_at}
use Rattle.decl_spelling.specs.Declarations.{Receiver, Head, head_at, receiver_at}
use Rattle.decl_spelling.specs.Grammar.{Here, IsList, IsDescriptor}
use Rattle.decl_spelling.specs.Spelling.{IsReceiver}
use Rattle.decl_spelling.specs.Asks.{Ask, ask_of, asking, flat_types, shape_asks}
use Rattle.decl_spelling.proofs.Took.{seen_from, Fits, Went, Took, Few, Again, IsHead, head_asks, unplaced_head, IsSpelling, IsValueOf}
use Rattle.decl_spelling.proofs.Readers.{took, few, nothing}
use Rattle.decl_spelling.proofs.DescriptorReaders.{flat_reads}
use Rattle.decl_spelling.proofs.HeadReaders.{head_answers, types_of_receiver, receivers_reads}
use Rattle.decl_spelling.proofs.HeadReaders.{head_again as head_stands, head_shrinks as head_falls}
use Rattle.decl_spelling.proofs.ValueReaders.{value_reads}

-- a block may begin where bytes are left
pub start_fits : (s : Spot) → IsBytes s.left → Fits (start s)
start_fits s bytes = record { bytes = bytes; line = omega arith; column = omega arith }

-- ---- what is read stands there, and its types are named in order

module _ (src : Sections) (bytes : IsBytes src.strings) (a : Ahead) (fits : Fits a) where
  pub flat_took : (x : Flat) (b : Ahead) → flat_at src a ≡ Ok (x, b) → Took (IsDescriptor src) shape_asks a x b
  flat_took x b e = took (IsDescriptor src) shape_asks a (flat_at src a) x b ((flat_reads src).takes bytes a fits) e

  pub head_took : (x : Head) (b : Ahead) → head_at src a ≡ Ok (x, b) → Took (IsHead src) head_asks a x b
  head_took x b e = took (IsHead src) head_asks a (head_at src a) x b (head_answers src bytes a fits) e

  pub receivers_took : (xs : List Receiver) (b : Ahead) → list_at (receiver_at src) a ≡ Ok (xs, b) → Took (IsList (IsReceiver src)) (λ xs. asking Any (flat_map types_of_receiver xs)) a xs b
  receivers_took xs b e = took (IsList (IsReceiver src)) (λ xs. asking Any (flat_map types_of_receiver xs)) a (list_at (receiver_at src) a) xs b ((receivers_reads src).takes bytes a fits) e

  -- ---- before a fault, no more of them than bytes

  pub flat_few : (s : Stopped) → flat_at src a ≡ Err s → Few a s
  flat_few s e = few (IsDescriptor src) shape_asks a (flat_at src a) s ((flat_reads src).takes bytes a fits) e

  pub head_few : (s : Stopped) → head_at src a ≡ Err s → Few a s
  head_few s e = few (IsHead src) head_asks a (head_at src a) s (head_answers src bytes a fits) e

  pub receivers_few : (s : Stopped) → list_at (receiver_at src) a ≡ Err s → Few a s
  receivers_few s e = few (IsList (IsReceiver src)) (λ xs. asking Any (flat_map types_of_receiver xs)) a (list_at (receiver_at src) a) s ((receivers_reads src).takes bytes a fits) e

module _ (src : Sections) (spelling : Spelling) (is : IsSpelling spelling) where
  pub value_took : IsBytes src.strings → (a : Ahead) → Fits a → (x : SpelledConst) (b : Ahead) → value_at src spelling a ≡ Ok (x, b) → Took (IsValueOf src spelling) (λ x. []) a x b
  value_took bytes a fits x b e = took (IsValueOf src spelling) nothing a (value_at src spelling a) x b ((value_reads src spelling is).takes bytes a fits) e

  pub value_few : IsBytes src.strings → (a : Ahead) → Fits a → (s : Stopped) → value_at src spelling a ≡ Err s → Few a s
  value_few bytes a fits s e = few (IsValueOf src spelling) nothing a (value_at src spelling a) s ((value_reads src spelling is).takes bytes a fits) e

  pub value_again : (a : Ahead) (tail : List ℕ) (x : SpelledConst) (after : Here) → IsValueOf src spelling (seen_from a tail) x after → length tail ≤ length after.left → Again (value_at src spelling) a x tail after
  value_again = (value_reads src spelling is).again

  pub value_shrinks : (a : Here) (x : SpelledConst) (b : Here) → IsValueOf src spelling a x b → length b.left ≤ length a.left
  value_shrinks = (value_reads src spelling is).shrinks

-- ---- what stands there is read

module _ (src : Sections) where
  pub flat_again : (a : Ahead) (tail : List ℕ) (x : Flat) (after : Here) → IsDescriptor src (seen_from a tail) x after → length tail ≤ length after.left → Again (flat_at src) a x tail after
  flat_again = (flat_reads src).again

  pub head_again : (a : Ahead) (tail : List ℕ) (x : Head) (after : Here) → IsHead src (seen_from a tail) x after → length tail ≤ length after.left
      → (y : Head) × (unplaced_head y ≡ unplaced_head x) × Again (head_at src) a y tail after
  head_again = head_stands src

  pub receivers_again : (a : Ahead) (tail : List ℕ) (xs : List Receiver) (after : Here) → IsList (IsReceiver src) (seen_from a tail) xs after → length tail ≤ length after.left
      → Again (list_at (receiver_at src)) a xs tail after
  receivers_again = (receivers_reads src).again

  -- ---- and takes bytes only from the front

  pub descriptor_shrinks : (a : Here) (x : Flat) (b : Here) → IsDescriptor src a x b → length b.left ≤ length a.left
  descriptor_shrinks = (flat_reads src).shrinks

  pub head_shrinks : (a : Here) (x : Head) (b : Here) → IsHead src a x b → length b.left ≤ length a.left
  head_shrinks = head_falls src

  pub receivers_shrinks : (a : Here) (xs : List Receiver) (b : Here) → IsList (IsReceiver src) a xs b → length b.left ≤ length a.left
  receivers_shrinks = (receivers_reads src).shrinks

-- Each mention took a byte.
pub went_frugally : (a : Ahead) (asks : List Ask) (b : Ahead) → Went a asks b → length b.mentions + length b.spot.left ≤ length a.mentions + length a.spot.left
went_frugally a asks b went = omega (arith, went.frugal, ap (λ (ms : List Mention). length ms) went.mentions, length-append a.mentions went.added)

-- ---- the typeOffs of what is asked

abbrev pub numbers_asked : List Ask → List ℕ
numbers_asked asks = map (λ k. k.0) asks

pub numbers_of : (ms : List Mention) → map (λ m. m.value) ms ≡ numbers_asked (map ask_of ms)
numbers_of [] = refl
numbers_of (m ∷ ms) = ap (λ (xs : List ℕ). m.value ∷ xs) (numbers_of ms)

pub values_are : (a : Ahead) (asks : List Ask) (b : Ahead) (went : Went a asks b) → map (λ m. m.value) went.added ≡ numbers_asked asks
values_are a asks b went = numbers_of went.added ∙ ap numbers_asked went.asked

abbrev pub numbers_in : List SpelledType → List ℕ
numbers_in types = map (λ type. type.number) types

pub asking_types : (asked : Demand) (types : List SpelledType) → numbers_asked (asking asked types) ≡ numbers_in types
asking_types asked [] = refl
asking_types asked (type ∷ types) = ap (λ (xs : List ℕ). type.number ∷ xs) (asking_types asked types)

pub numbers-append : (xs ys : List Ask) → numbers_asked (xs ++ ys) ≡ numbers_asked xs ++ numbers_asked ys
numbers-append xs ys = map-append (λ k. k.0) xs ys

-- a descriptor names the types that stand in it, in order
pub shape_asks_types : (x : Flat) → numbers_asked (shape_asks x) ≡ numbers_in (flat_types x)
shape_asks_types (predeclared_of basic) = refl
shape_asks_types (named_of name path) = refl
shape_asks_types (parameter_of name path) = refl
shape_asks_types (alias_of name path) = refl
shape_asks_types (pointer_of type) = refl
shape_asks_types (slice_of type) = refl
shape_asks_types (array_of size type) = refl
shape_asks_types (chan_of dir type) = refl
shape_asks_types (map_of key type) = refl
shape_asks_types (func_of home sig) = asking_types Any (sig_types sig)
shape_asks_types (struct_of home fields) = asking_types Any (flat_types (struct_of home fields))
shape_asks_types (interface_of home embedded methods) = asking_types Any (flat_types (interface_of home embedded methods))
shape_asks_types (instance_of base args) =
    numbers-append (asking Any args) _ ∙ ap (λ (xs : List ℕ). xs ++ base.number ∷ []) (asking_types Any args) ∙ sym (map-append (λ (type : SpelledType). type.number) args (base ∷ []))
shape_asks_types (union_of terms) = asking_types Any (flat_types (union_of terms))
