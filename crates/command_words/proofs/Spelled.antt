-- What the parts of a word say of the source that it names.
use Rattle.std.proofs.Common.{◌≡◌, ◌≢◌, ℕ, ◌<◌, Bool, true, false, not, IsTrue, ◌↔◌, List, ◌∷◌, ◌++◌, length, get_or, Option, None, Some, IfNone, Bor, refl, sym, ◌∙◌, lit<}
use Rattle.std.proofs.lemmas.Str.Pattern.{IsSplitOnceResult, split_after}
use Rattle.command_words.specs.Texts.{Lacks, Source, source_word, IsSource}

differ : false ≡ true → ⊥
differ e = cc

-- a search for a byte that finds none
pub lacks_where : (found : Bool) (byte : ℕ) (text : List ℕ)
    → (found ≡ true → (k : ℕ) × (k < length text) × (get_or text k 0 ≡ byte)) × ((k : ℕ) → k < length text → get_or text k 0 ≡ byte → found ≡ true)
    → IsTrue (not found) ↔ Lacks byte text
lacks_where true byte text seeks = ((λ t. absurd (differ t)), (λ lacks. let at = seeks.0 refl in absurd (lacks at.0 at.1 at.2)))
lacks_where false byte text seeks = ((λ _. λ k below is. let t : false ≡ true = seeks.1 k below is in cc), (λ _. refl))

-- what holds anyway holds where there is nothing
pub none_or : {X : Type 0} (o : Option X) (P : Type 0) → P → IfNone o P
none_or None P p = p
none_or (Some x) P p = tt

after_mark : (rest path file : List ℕ) (word : List ℕ) → word ≡ 102 ∷ 58 ∷ rest → word ≡ 102 ∷ 58 ∷ (path ++ 61 ∷ file) → rest ≡ path ++ 61 ∷ file
after_mark rest path file word e f = let both : 102 ∷ 58 ∷ rest ≡ 102 ∷ 58 ∷ (path ++ 61 ∷ file) = sym e ∙ f in cc

-- where nothing divides the rest of a word, it names no source
pub undivided : (word rest : List ℕ) → word ≡ 102 ∷ 58 ∷ rest → IsSplitOnceResult 61 rest None → (source : Source) → IsSource source → word ≢ source_word source
undivided word rest e none source sound is =
    split_after 61 rest source.path source.file None none (lit< tt) (after_mark rest source.path source.file word e is) sound.path.no_equals

-- a word that names a source is divided into its path and its file
pub divided : (word rest : List ℕ) (path file : Bor (List ℕ)) → word ≡ 102 ∷ 58 ∷ rest → IsSplitOnceResult 61 rest (Some (path, file))
    → (source : Source) → IsSource source → word ≡ source_word source → (path.now ≡ source.path) × (file.now ≡ source.file)
divided word rest path file e some source sound is =
    split_after 61 rest source.path source.file (Some (path, file)) some (lit< tt) (after_mark rest source.path source.file word e is) sound.path.no_equals
