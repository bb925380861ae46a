-- What is known of all interfaces.
use Rattle.std.specs.Prelude.{◌≡◌, ℕ, IfSome, Result, Ok, Err}
use Rattle.common_terms.specs.Calls.{AllWithin}
use Rattle.replacement.specs.declared.faults.SetFault.{SetFault}
use Rattle.replacement.specs.declared.faults.SetFault.TheVariants.{OutOfMemory}
use Rattle.set_terms.specs.declared.shares.Shares.{Shares}
use Rattle.set_terms.specs.Shares.{Codes, joined, wholes_of, unions_of, put}

-- what the elements that ended leave, and the union that is under way
pub record Known : Type 0 where
  pub wholes : ℕ → Codes
  pub unions : ℕ → Codes

abbrev pub known_of : Shares → Known
known_of shares = record { wholes = wholes_of shares.wholes.entries; unions = unions_of shares.unions.entries }

-- the types of all terms stand below n
pub record Holds (n : ℕ) (known : Known) : Type 0 where
  pub wholes : (id : ℕ) → IfSome (known.wholes id) (AllWithin n)
  pub unions : (id : ℕ) → IfSome (known.unions id) (AllWithin n)

-- terms came to the union of the holder, and nothing else is different
pub record IsAdded (holder : ℕ) (codes : Codes) (old new : Known) : Type 0 where
  pub wholes : (id : ℕ) → new.wholes id ≡ old.wholes id
  pub unions : (id : ℕ) → new.unions id ≡ put holder (joined (old.unions holder) codes) old.unions id

-- want of memory alone is free
abbrev pub Takes : ℕ → Codes → Known → Known → Result (Unit {0}) SetFault → Type 0
Takes holder codes old new (Ok u) = IsAdded holder codes old new
Takes holder codes old new (Err fault) = fault ≡ OutOfMemory
