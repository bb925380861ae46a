-- What doesn't come to too many interfaces is the same where more may be opened.
use Rattle.std.proofs.Common.{◌≡◌, ◌≢◌, ℕ, zero, suc, List, ◌++◌, Result, Err, refl}
use Rattle.interface_opening.specs.Elements.{Opened, Looks}
use Rattle.interface_opening.specs.Opening.{Item, Next, done, faulty, found, next, inside, opened_with, at_limit, onward, opening}

module _ {T Q M F : Type 0} (look : Looks T Q M F) where
  abbrev Further : Type 0
  Further = List (Item T Q) → Opened T M → Result (Opened T M) F

  abbrev IsMore : Further → Further → Type 0
  IsMore more less = (items : List (Item T Q)) (s : Opened T M) → less items s ≢ Err look.too_many → more items s ≡ less items s

  at_the_limit : (further : Further) (x : Next T Q M F) → at_limit look x ≢ Err look.too_many → onward look further x ≡ at_limit look x
  at_the_limit further (done s) few = refl
  at_the_limit further (faulty f) few = refl
  at_the_limit further (found x it s rest) few = absurd (few refl)

  onward_more : (more less : Further) → IsMore more less → (x : Next T Q M F) → onward look less x ≢ Err look.too_many → onward look more x ≡ onward look less x
  onward_more more less is (done s) few = refl
  onward_more more less is (faulty f) few = refl
  onward_more more less is (found x it s rest) few = is (inside look x it ++ rest) (opened_with look x it s) few

  pub one_more : (n : ℕ) → IsMore (opening look (suc n)) (opening look n)
  unfolding opening
  one_more zero items s few = at_the_limit (opening look zero) (next look items s) few
  one_more (suc n) items s few = onward_more (opening look (suc n)) (opening look n) (one_more n) (next look items s) few
