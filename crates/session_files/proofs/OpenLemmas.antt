-- The files of a session as they are kept, and as they are seen.
use Rattle.std.proofs.Common.{◌≡◌, ℕ, suc, ◌<◌, List, [], ◌∷◌, length, Some, slice_get, option_map, refl, sym, ap, subst, ◌∙◌}
use Rattle.std.proofs.lemmas.Option.{slice_get-map}
use Rattle.session_files.specs.declared.files.SessionFile.{SessionFile}
use Rattle.name_index.specs.FullFile.{FullFile, Listed, listed}
use Rattle.name_index.specs.Lookup.{as_listed}
use Rattle.session_files.specs.Sessions.{Opened, AreSound, StandsIn, Stands}
use Rattle.session_files.specs.OpenSessions.{opened_of, all_opened, IsPlace}
use Rattle.session_files.specs.declared.files.Place.{Place}
use Rattle.session_files.proofs.Standing.{stands_again}

pub opened_there : (files : List SessionFile) (i : ℕ) (x : SessionFile) → slice_get files i ≡ Some x → slice_get (all_opened files) i ≡ Some (opened_of x)
opened_there files i x at = slice_get-map opened_of files i ∙ ap (option_map opened_of) at

pub length_opened : (files : List SessionFile) → length (all_opened files) ≡ length files
length_opened [] = refl
length_opened (f ∷ fs) = ap suc (length_opened fs)

-- what is listed there is the place of the name
pub is_place : (files : List SessionFile) → AreSound (all_opened files) → (path name : List ℕ) (place : Place) (x : SessionFile) (p n : List ℕ) → Stands (all_opened files) path name place.file place.number
    → slice_get files place.file ≡ Some x → x.image ≡ place.image.now → Some (as_listed p n place.offset) ≡ slice_get (listed x.image.packages) place.number → place.offset < x.image.body.len
    → IsPlace (all_opened files) path name place
is_place files sound path name place x p n stands at image listed_there inside = record {
  opened = opened_of x;
  stands = here;
  its_file = image;
  at = stands_again (all_opened files) sound path name place.file place.number (opened_of x) place.offset here ∙ ap (λ f. Some (f, place.offset)) image;
  inside = subst (λ (f : FullFile). place.offset < f.body.len) image inside;
}
  where
    same : stands.0 ≡ opened_of x
    same = some (sym stands.2.there ∙ opened_there files place.file x at)
      where
        some : {a b : Opened} → Some a ≡ Some b → a ≡ b
        some e = cc

    offset : stands.1 ≡ place.offset
    offset = some (sym stands.2.listed ∙ ap (λ (o : Opened). slice_get (listed o.file.packages) place.number) same ∙ sym listed_there)
      where
        some : {a b : Listed} → Some a ≡ Some b → a.offset ≡ b.offset
        some {a = a} {b = b} e = let is : a ≡ b = cc in ap (λ (l : Listed). l.offset) is

    here : StandsIn (all_opened files) path name place.file place.number (opened_of x) place.offset
    here = subst (λ (m : ℕ). StandsIn (all_opened files) path name place.file place.number (opened_of x) m) offset (subst (λ (o : Opened). StandsIn (all_opened files) path name place.file place.number o stands.1) same stands.2)
