-- What a reader of heads answers is a head.
use Rattle.std.proofs.Common.{◌≡◌, ℕ, Option, Some, None, sym, ◌∙◌}
use Rattle.std.specs.Prelude.{IfSome, IfNone}
use Rattle.std.specs.Option.{option_map}
use Rattle.wire_bytes.proofs.Spellings.{IsBytes}
use Rattle.wire_bytes.proofs.TextLemmas.{IsBytes-drop}
use Rattle.file_parts.specs.declared.parts.Parts.{Parts}
use Rattle.decl_spelling.specs.Sections.{Sections, HoldsBytes}
use Rattle.decl_spelling.specs.Heads.{Lead, IsHead, head_lead}
use Rattle.decl_spelling.proofs.DeclAtLaws.{strings_are, body_is}
use Rattle.decl_spelling.proofs.Windows.{IsBytes-take}
use Rattle.decl_spelling.proofs.LeadTakes.{AreBytes, head_taken}
use Rattle.decl_spelling.proofs.LeadAgain.{head_again}
use Rattle.decl_reader.specs.declared.heads.Head.{Head}
use Rattle.block_reader.specs.Calls.{sections_of}
use Rattle.decl_reader.specs.Leads.{lead}

-- the bytes of the sections are bytes of the file
pub are_bytes : (p : Parts) → IsBytes p.file.now → AreBytes (sections_of p)
are_bytes p fits = record {
  strings = IsBytes-take _ _ (IsBytes-drop p.strings_at p.file.now fits);
  body = IsBytes-take _ _ (IsBytes-drop p.body_at p.file.now fits);
}

pub is_head : (p : Parts) (offset : ℕ) (result : Option Head) → HoldsBytes (sections_of p) → option_map lead result ≡ head_lead (sections_of p) offset → IfSome result (λ head. IsHead (sections_of p) offset (lead head))
is_head p offset (Some head) holds e =
    head_taken (sections_of p) offset (lead head) (record { strings = strings_are (sections_of p) holds; body = body_is (sections_of p) holds }) (sym e)
is_head p offset None holds e = tt

pub is_no_head : (p : Parts) (offset : ℕ) (result : Option Head) → option_map lead result ≡ head_lead (sections_of p) offset → IfNone result ((lead : Lead) → IsHead (sections_of p) offset lead → ⊥)
is_no_head p offset (Some head) e = tt
is_no_head p offset None e = λ lead is. let found = head_again (sections_of p) offset lead is in absurd cc

lead_is : (a b : Lead) → Some a ≡ Some b → a ≡ b
lead_is a b e = cc

pub one_lead : (src : Sections) (start : ℕ) (a b : Lead) → IsHead src start a → IsHead src start b → a ≡ b
one_lead src start a b first second = lead_is a b (sym (head_again src start a first) ∙ head_again src start b second)
