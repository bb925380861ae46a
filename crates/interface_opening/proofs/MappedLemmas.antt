-- What becomes known of types becomes known of what they mean.
use Rattle.std.proofs.Common.{◌≡◌, Bool, true, false, ◌||◌, cond, List, [], ◌∷◌, ◌++◌, map, refl, ap, sym, ◌∙◌}
use Rattle.std.specs.List.{AllByRecursion}
use Rattle.std.proofs.lemmas.List.{map-append}
use Rattle.interface_opening.specs.Elements.{Event, Opened, Looks}
use Rattle.interface_opening.specs.Opening.{has, with_mark, marked_by, noting, marking}
use Rattle.interface_opening.specs.Mapped.{event_mapped, opened_mapped, AgreeOn}

module _ {T U Q R M N F G : Type 0} (look : Looks T Q M F) (other : Looks U R N G) (d : T → U) (m : M → N) where
  pub noting_mapped : (event : Event T) (s : Opened T M) → noting other (event_mapped d event) (opened_mapped d m s) ≡ opened_mapped d m (noting look event s)
  noting_mapped event s =
      let more = sym (map-append (event_mapped d) s.events (event ∷ [])) in
      λ i. record { types = map d s.types; methods = map m s.methods; flag = s.flag; marked = map d s.marked; events = more i }

module _ {T U Q R M N F G : Type 0} (look : Looks T Q M F) (other : Looks U R N G) (d : T → U) (m : M → N) (Known : T → Type 0) (agree : AgreeOn Known d look other) where
  pub has_mapped : (xs : List T) (x : T) → AllByRecursion Known xs → Known x → has other (map d xs) (d x) ≡ has look xs x
  has_mapped [] x all known = refl
  has_mapped (y ∷ ys) x all known =
      let one = agree x y known all.0 in
      let rest = has_mapped ys x all.1 known in
      λ i. one i || rest i

  mark_mapped : (xs : List T) (x : T) → AllByRecursion Known xs → Known x → with_mark other (map d xs) (d x) ≡ map d (with_mark look xs x)
  mark_mapped xs x all known = ap (λ b. cond b (map d xs) (map d xs ++ d x ∷ [])) (has_mapped xs x all known) ∙ by (has look xs x)
    where
      by : (b : Bool) → cond b (map d xs) (map d xs ++ d x ∷ []) ≡ map d (cond b xs (xs ++ x ∷ []))
      by true = refl
      by false = sym (map-append d xs (x ∷ []))

  pub marking_mapped : (x : T) (s : Opened T M) → AllByRecursion Known s.marked → Known x → marking other (d x) (opened_mapped d m s) ≡ opened_mapped d m (marking look x s)
  marking_mapped x s all known =
      let more = mark_mapped s.marked x all known in
      λ i. record { types = map d s.types; methods = map m s.methods; flag = s.flag; marked = more i; events = map (event_mapped d) s.events }

  opens_mark : (own : List M) (flag : Bool) (marked : List T) (x : T) → AllByRecursion Known marked → Known x
      → marked_by other (map m own) flag (map d marked) (d x) ≡ map d (marked_by look own flag marked x)
  opens_mark [] false marked x all known = refl
  opens_mark [] true marked x all known = mark_mapped marked x all known
  opens_mark (o ∷ own) flag marked x all known = mark_mapped marked x all known
