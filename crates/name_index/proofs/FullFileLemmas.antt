-- Whole files: what is read is an envelope, and an envelope is read.
use Rattle.std.proofs.Common.{◌≡◌, ℕ, zero, suc, ◌<◌, Result, Err, ◌+◌, ◌-◌, ◌≤◌, List, [], ◌∷◌, ◌++◌, length, take, drop, Bool, true, false, ◌||◌, eqb, Ok, map, refl, sym, ap, subst, ◌∙◌, arith, ◌⊎◌, inl, inr, append_assoc}
use Rattle.std.proofs.lemmas.Bool.{eqb-true, le-ltb, cases_lt}
use Rattle.std.proofs.lemmas.List.{nil_from_length, length-append, length-drop, length-take, drop_at, take-append-drop, get_or-take, get_or_past}
use Rattle.std.specs.List.{AllByRecursion}
use Rattle.wire_bytes.specs.declared.fault.ByteFault.{ByteFault}
use Rattle.wire_bytes.specs.declared.fault.ByteFault.TheVariants as faults
use Rattle.wire_bytes.specs.Reading.{Spot, place, onward, ◌>>=◌, demand, byte_at, bytes_at, InOrder}
use Rattle.wire_bytes.specs.Uvarint.{BeginsWith, uvarint_at}
use Rattle.wire_bytes.proofs.Steps.{bind_ok, demand_ok, done_is}
use Rattle.wire_bytes.proofs.Spellings.{IsBytes}
use Rattle.wire_bytes.proofs.TextLemmas.{IsBytes-drop}
use Rattle.wire_bytes.proofs.ManyLemmas.{Takes}
use Rattle.wire_bytes.proofs.CursorLemmas.{uvarint_at_takes, uvarint_at_again, byte_at_takes, byte_at_again, bytes_at_takes}
use Rattle.file_parts.specs.Paths.{ArePaths}
use Rattle.name_index.specs.FullFile.{Section, content, Package, FullFile, named}
use Rattle.name_index.specs.Envelope.{Envelope, IsPackage}
use Rattle.name_index.specs.FirstBreach.{FirstBreach, Header, header_at, section_at, index_at, full_file_of}
use Rattle.name_index.proofs.PackageLemmas.{index_takes, index_again}

-- ---- what stands behind

-- the rest of some bytes
abbrev pub IsEnd : List ℕ → List ℕ → Type 0
IsEnd bytes rest = (front : List ℕ) × (bytes ≡ front ++ rest)

behind : (bytes a front rest : List ℕ) → IsEnd bytes a → a ≡ front ++ rest → IsEnd bytes rest
behind bytes a front rest is_end e = (is_end.0 ++ front, is_end.1 ∙ ap (λ (t : List ℕ). is_end.0 ++ t) e ∙ sym (append_assoc is_end.0 front rest))

end_shorter : (bytes rest : List ℕ) → IsEnd bytes rest → length rest ≤ length bytes
end_shorter bytes rest is_end = omega (arith, ap length is_end.1, length-append is_end.0 rest)

end_at : (bytes rest : List ℕ) (n : ℕ) → IsEnd bytes rest → n + length rest ≡ length bytes → drop n bytes ≡ rest
end_at bytes rest n is_end len =
    let front : length is_end.0 ≡ n = omega (arith, ap length is_end.1, length-append is_end.0 rest) in
    ap (drop n) is_end.1 ∙ drop_at is_end.0 rest n front

-- ---- the header

pub record IsHeader (bytes : List ℕ) (h : Header) (rest : List ℕ) : Type 0 where
  pub at_version : List ℕ
  pub at_strings_size : List ℕ
  pub at_body_size : List ℕ
  pub letter : bytes ≡ 105 ∷ at_version
  pub version : BeginsWith at_version h.version at_strings_size
  pub known : (h.version ≡ 1) ⊎ (h.version ≡ 2)
  pub strings_size : BeginsWith at_strings_size h.strings at_body_size
  pub body_size : BeginsWith at_body_size h.body rest

header_end : (bytes : List ℕ) (h : Header) (rest : List ℕ) → IsHeader bytes h rest → IsEnd bytes rest
header_end bytes h rest is =
    let first : IsEnd bytes is.at_version = (105 ∷ [], is.letter) in
    let second = behind bytes is.at_version is.version.0 is.at_strings_size first is.version.2 in
    let third = behind bytes is.at_strings_size is.strings_size.0 is.at_body_size second is.strings_size.2 in
    behind bytes is.at_body_size is.body_size.0 rest third is.body_size.2

one_or_two : (v : ℕ) → (eqb v 1 || eqb v 2) ≡ true → (v ≡ 1) ⊎ (v ≡ 2)
one_or_two v e = go (eqb v 1) (eqb v 2) (eqb-true v 1) (eqb-true v 2) e
  where
    go : (a b : Bool) → (a ≡ true → v ≡ 1) → (b ≡ true → v ≡ 2) → (a || b) ≡ true → (v ≡ 1) ⊎ (v ≡ 2)
    go true b one two e = inl (one refl)
    go false b one two e = inr (two e)

known_test : (v : ℕ) → (v ≡ 1) ⊎ (v ≡ 2) → (eqb v 1 || eqb v 2) ≡ true
known_test v (inl one) = rw one refl
known_test v (inr two) = rw two refl

header_takes : (s : Spot) (x : Header) (after : Spot) → IsBytes s.left → header_at s ≡ Ok (x, after) → Takes IsHeader s x after
unfolding header_at
header_takes s x after fits e =
    let letter = bind_ok (byte_at s) (λ l. demand (eqb l.0 105) (faults.Tag (place s) l.0) >>= λ _. uvarint_at l.1 >>= λ v. demand (eqb v.0 1 || eqb v.0 2) (faults.Version v.0) >>= λ _. uvarint_at v.1 >>= λ a. uvarint_at a.1 >>= λ b. Ok (record { version = v.0; strings = a.0; body = b.0 }, b.1)) (x, after) e in
    let l = letter.0 in
    let full = bind_ok (demand (eqb l.0 105) (faults.Tag (place s) l.0)) (λ _. uvarint_at l.1 >>= λ v. demand (eqb v.0 1 || eqb v.0 2) (faults.Version v.0) >>= λ _. uvarint_at v.1 >>= λ a. uvarint_at a.1 >>= λ b. Ok (record { version = v.0; strings = a.0; body = b.0 }, b.1)) (x, after) letter.2 in
    let version = bind_ok (uvarint_at l.1) (λ v. demand (eqb v.0 1 || eqb v.0 2) (faults.Version v.0) >>= λ _. uvarint_at v.1 >>= λ a. uvarint_at a.1 >>= λ b. Ok (record { version = v.0; strings = a.0; body = b.0 }, b.1)) (x, after) full.2 in
    let v = version.0 in
    let known = bind_ok (demand (eqb v.0 1 || eqb v.0 2) (faults.Version v.0)) (λ _. uvarint_at v.1 >>= λ a. uvarint_at a.1 >>= λ b. Ok (record { version = v.0; strings = a.0; body = b.0 }, b.1)) (x, after) version.2 in
    let strings = bind_ok (uvarint_at v.1) (λ a. uvarint_at a.1 >>= λ b. Ok (record { version = v.0; strings = a.0; body = b.0 }, b.1)) (x, after) known.2 in
    let a = strings.0 in
    let body = bind_ok (uvarint_at a.1) (λ b. Ok (record { version = v.0; strings = a.0; body = b.0 }, b.1)) (x, after) strings.2 in
    let b = body.0 in
    let t0 = byte_at_takes s l.0 l.1 fits letter.1 in
    let t1 = uvarint_at_takes l.1 v.0 v.1 t0.fits version.1 in
    let t2 = uvarint_at_takes v.1 a.0 a.1 t1.fits strings.1 in
    let t3 = uvarint_at_takes a.1 b.0 b.1 t2.fits body.1 in
    let letter_is : l.0 ≡ 105 = eqb-true l.0 105 (demand_ok (eqb l.0 105) (faults.Tag (place s) l.0) full.0 full.1) in
    let made : Header × Spot = (record { version = v.0; strings = a.0; body = b.0 }, b.1) in
    subst (λ (y : Header × Spot). Takes IsHeader s y.0 y.1) (done_is made (x, after) body.2)
    (record {
      stands = record {
        at_version = l.1.left;
        at_strings_size = v.1.left;
        at_body_size = a.1.left;
        letter = t0.stands ∙ ap (λ (c : ℕ). c ∷ l.1.left) letter_is;
        version = t1.stands;
        known = one_or_two v.0 (demand_ok (eqb v.0 1 || eqb v.0 2) (faults.Version v.0) known.0 known.1);
        strings_size = t2.stands;
        body_size = t3.stands;
      };
      same_end = t3.same_end ∙ t2.same_end ∙ t1.same_end ∙ t0.same_end;
      fits = t3.fits;
    })

header_again : (s : Spot) (x : Header) (rest : List ℕ) → IsHeader s.left x rest → header_at s ≡ Ok (x, onward s rest)
unfolding header_at
header_again s x rest is =
    let letter : byte_at s ≡ Ok (105, onward s is.at_version) = byte_at_again s 105 is.at_version is.letter in
    let version : uvarint_at (onward s is.at_version) ≡ Ok (x.version, onward s is.at_strings_size) = uvarint_at_again (onward s is.at_version) x.version is.at_strings_size is.version in
    let strings : uvarint_at (onward s is.at_strings_size) ≡ Ok (x.strings, onward s is.at_body_size) = uvarint_at_again (onward s is.at_strings_size) x.strings is.at_body_size is.strings_size in
    let body : uvarint_at (onward s is.at_body_size) ≡ Ok (x.body, onward s rest) = uvarint_at_again (onward s is.at_body_size) x.body rest is.body_size in
    rw (letter, version, known_test x.version is.known, strings, body) refl

-- ---- the sections

pub record IsSectionHere (size : ℕ) (s : Spot) (x : Section) (after : Spot) : Type 0 where
  pub at_is : x.at ≡ place s
  pub len_is : x.len ≡ size
  pub bytes : List ℕ
  pub width : length bytes ≡ size
  pub stands : s.left ≡ bytes ++ after.left
  pub same_end : after.end ≡ s.end
  pub fits : IsBytes after.left

section_takes : (size : ℕ) (s : Spot) (x : Section) (after : Spot) → IsBytes s.left → section_at size s ≡ Ok (x, after) → IsSectionHere size s x after
section_takes size s x after fits e =
    let bytes = bind_ok (bytes_at size s) (λ t. Ok (record { at = place s; len = size }, t.1)) (x, after) e in
    let b = bytes.0 in
    let taken = bytes_at_takes size s b.0 b.1 fits bytes.1 in
    let made : Section × Spot = (record { at = place s; len = size }, b.1) in
    subst (λ (y : Section × Spot). IsSectionHere size s y.0 y.1) (done_is made (x, after) bytes.2)
    (record { at_is = refl; len_is = refl; bytes = b.0; width = taken.1; stands = taken.0.stands; same_end = taken.0.same_end; fits = taken.0.fits })

section_again : (size : ℕ) (s : Spot) → size ≤ length s.left → section_at size s ≡ Ok (record { at = place s; len = size }, onward s (drop size s.left))
section_again size s enough = rw (le-ltb (length s.left) size enough) refl

-- ---- the whole file

IsBytes-content : (bytes : List ℕ) (s : Section) → IsBytes bytes → IsBytes (content bytes s)
IsBytes-content bytes s fits i =
    elim (cases_lt i s.len) [
      | inl lt ↦ rw (get_or-take s.len (drop s.at bytes) i 0 lt) (IsBytes-drop s.at bytes fits i)
      | inr le ↦ rw (get_or_past (take s.len (drop s.at bytes)) i 0 (omega (arith, length-take s.len (drop s.at bytes)))) (omega arith)
    ]

pub file_takes : (own bytes : List ℕ) (x : FullFile) → IsBytes bytes → full_file_of own bytes ≡ Ok x → Envelope own bytes x
unfolding full_file_of
file_takes own bytes x fits e =
    let start : Spot = record { end = length bytes; left = bytes } in
    let header = bind_ok (header_at start) (λ h. section_at h.0.strings h.1 >>= λ s. section_at h.0.body s.1 >>= λ b. index_at own (content bytes s.0) b.0.len b.1 >>= λ p. demand (eqb (length p.1.left) 0) (faults.Trailing (place p.1)) >>= λ _. Ok (record { bytes = bytes; version = h.0.version; strings = s.0; body = b.0; packages = named own p.0 })) x e in
    let h = header.0 in
    let strings = bind_ok (section_at h.0.strings h.1) (λ s. section_at h.0.body s.1 >>= λ b. index_at own (content bytes s.0) b.0.len b.1 >>= λ p. demand (eqb (length p.1.left) 0) (faults.Trailing (place p.1)) >>= λ _. Ok (record { bytes = bytes; version = h.0.version; strings = s.0; body = b.0; packages = named own p.0 })) x header.2 in
    let s = strings.0 in
    let body = bind_ok (section_at h.0.body s.1) (λ b. index_at own (content bytes s.0) b.0.len b.1 >>= λ p. demand (eqb (length p.1.left) 0) (faults.Trailing (place p.1)) >>= λ _. Ok (record { bytes = bytes; version = h.0.version; strings = s.0; body = b.0; packages = named own p.0 })) x strings.2 in
    let b = body.0 in
    let packages = bind_ok (index_at own (content bytes s.0) b.0.len b.1) (λ p. demand (eqb (length p.1.left) 0) (faults.Trailing (place p.1)) >>= λ _. Ok (record { bytes = bytes; version = h.0.version; strings = s.0; body = b.0; packages = named own p.0 })) x body.2 in
    let p = packages.0 in
    let ended = bind_ok (demand (eqb (length p.1.left) 0) (faults.Trailing (place p.1))) (λ _. Ok (record { bytes = bytes; version = h.0.version; strings = s.0; body = b.0; packages = named own p.0 })) x packages.2 in
    let t0 = header_takes start h.0 h.1 fits header.1 in
    let t1 = section_takes h.0.strings h.1 s.0 s.1 t0.fits strings.1 in
    let t2 = section_takes h.0.body s.1 b.0 b.1 t1.fits body.1 in
    let t3 = index_takes own (content bytes s.0) b.0.len b.1 p.0 p.1 (IsBytes-content bytes s.0 fits) t2.fits packages.1 in
    let end1 : IsEnd bytes h.1.left = header_end bytes h.0 h.1.left t0.stands in
    let end2 : IsEnd bytes s.1.left = behind bytes h.1.left t1.bytes s.1.left end1 t1.stands in
    let end3 : IsEnd bytes b.1.left = behind bytes s.1.left t2.bytes b.1.left end2 t2.stands in
    let short1 = end_shorter bytes h.1.left end1 in
    let short3 = end_shorter bytes b.1.left end3 in
    let len1 : length h.1.left ≡ h.0.strings + length s.1.left = omega (arith, ap length t1.stands, length-append t1.bytes s.1.left, t1.width) in
    let len2 : length s.1.left ≡ h.0.body + length b.1.left = omega (arith, ap length t2.stands, length-append t2.bytes b.1.left, t2.width) in
    let strings_at : s.0.at + length h.1.left ≡ length bytes = omega (arith, t1.at_is, t0.same_end, short1) in
    let body_at : b.0.at + length s.1.left ≡ length bytes = omega (arith, t2.at_is, t1.same_end, t0.same_end, short1, len1) in
    let nothing : p.1.left ≡ [] = nil_from_length p.1.left (eqb-true (length p.1.left) 0 (demand_ok (eqb (length p.1.left) 0) (faults.Trailing (place p.1)) ended.0 ended.1)) in
    let there : drop (b.0.at + b.0.len) bytes ≡ b.1.left = end_at bytes b.1.left (b.0.at + b.0.len) end3 (omega (arith, body_at, len2, t2.len_is)) in
    let made : FullFile = record { bytes = bytes; version = h.0.version; strings = s.0; body = b.0; packages = named own p.0 } in
    subst (λ (f : FullFile). Envelope own bytes f) (done_is made x ended.2)
    (record {
      at_version = t0.stands.at_version;
      at_strings_size = t0.stands.at_strings_size;
      at_body_size = t0.stands.at_body_size;
      at_sections = h.1.left;
      at_packages = t3.stands.at_packages;
      spelled = p.0;
      whole = refl;
      letter = t0.stands.letter;
      version = t0.stands.version;
      known = t0.stands.known;
      strings_size = subst (λ (n : ℕ). BeginsWith t0.stands.at_strings_size n t0.stands.at_body_size) (sym t1.len_is) t0.stands.strings_size;
      body_size = subst (λ (n : ℕ). BeginsWith t0.stands.at_body_size n h.1.left) (sym t2.len_is) t0.stands.body_size;
      strings_at = strings_at;
      body_at = omega (arith, strings_at, body_at, len1, t1.len_is);
      inside = omega (arith, body_at, len2, t2.len_is);
      count = subst (λ (bs : List ℕ). BeginsWith bs (length p.0) t3.stands.at_packages) (sym there) t3.stands.count;
      packages = subst (λ (bs : List ℕ). InOrder (IsPackage (content bytes s.0) b.0.len) t3.stands.at_packages p.0 bs) nothing t3.stands.packages;
      paths = t3.stands.paths;
      resolved = refl;
    })

-- the paths of an index, wherever it was read
pub paths_read : (own bytes : List ℕ) (h : Header) (strings body : Section) (ps : List Package) (s1 s2 s3 s4 : Spot) → IsBytes bytes
    → header_at (record { end = length bytes; left = bytes }) ≡ Ok (h, s1) → section_at h.strings s1 ≡ Ok (strings, s2) → section_at h.body s2 ≡ Ok (body, s3)
    → index_at own (content bytes strings) body.len s3 ≡ Ok (ps, s4) → ArePaths own (map (λ p. p.path) ps)
paths_read own bytes h strings body ps s1 s2 s3 s4 fits header first second index =
    let t0 = header_takes (record { end = length bytes; left = bytes }) h s1 fits header in
    let t1 = section_takes h.strings s1 strings s2 t0.fits first in
    let t2 = section_takes h.body s2 body s3 t1.fits second in
    let t3 = index_takes own (content bytes strings) body.len s3 ps s4 (IsBytes-content bytes strings fits) t2.fits index in
    t3.stands.paths

pub file_again : (own bytes : List ℕ) (x : FullFile) → Envelope own bytes x → full_file_of own bytes ≡ Ok x
unfolding full_file_of
file_again own bytes x env =
    let start : Spot = record { end = length bytes; left = bytes } in
    let h : Header = record { version = x.version; strings = x.strings.len; body = x.body.len } in
    let is : IsHeader bytes h env.at_sections = record { at_version = env.at_version; at_strings_size = env.at_strings_size; at_body_size = env.at_body_size; letter = env.letter; version = env.version; known = env.known; strings_size = env.strings_size; body_size = env.body_size } in
    let header : header_at start ≡ Ok (h, onward start env.at_sections) = header_again start h env.at_sections is in
    let end1 = header_end bytes h env.at_sections is in
    let s1 : Spot = onward start env.at_sections in
    let enough1 : x.strings.len ≤ length env.at_sections = omega (arith, env.strings_at, env.body_at, env.inside) in
    let strings_is : length bytes - length env.at_sections ≡ x.strings.at = omega (arith, env.strings_at) in
    let strings : section_at x.strings.len s1 ≡ Ok (x.strings, onward s1 (drop x.strings.len env.at_sections))
    = section_again x.strings.len s1 enough1 ∙ rw strings_is refl in
    let s2 : Spot = onward s1 (drop x.strings.len env.at_sections) in
    let enough2 : x.body.len ≤ length s2.left = omega (arith, env.strings_at, env.body_at, env.inside, length-drop x.strings.len env.at_sections) in
    let body_is : length bytes - length (drop x.strings.len env.at_sections) ≡ x.body.at = omega (arith, env.strings_at, env.body_at, length-drop x.strings.len env.at_sections, enough1) in
    let body : section_at x.body.len s2 ≡ Ok (x.body, onward s2 (drop x.body.len s2.left))
    = section_again x.body.len s2 enough2 ∙ rw body_is refl in
    let s3 : Spot = onward s2 (drop x.body.len s2.left) in
    let end2 : IsEnd bytes s2.left = behind bytes env.at_sections (take x.strings.len env.at_sections) s2.left end1 (sym (take-append-drop x.strings.len env.at_sections)) in
    let end3 : IsEnd bytes s3.left = behind bytes s2.left (take x.body.len s2.left) s3.left end2 (sym (take-append-drop x.body.len s2.left)) in
    let there : drop (x.body.at + x.body.len) bytes ≡ s3.left
    = end_at bytes s3.left (x.body.at + x.body.len) end3 (omega (arith, env.strings_at, env.body_at, env.inside, length-drop x.strings.len env.at_sections, length-drop x.body.len s2.left)) in
    let index : index_at own (content bytes x.strings) x.body.len s3 ≡ Ok (env.spelled, onward s3 [])
    = index_again own (content bytes x.strings) x.body.len s3 env.spelled [] (record {
      at_packages = env.at_packages;
      count = subst (λ (bs : List ℕ). BeginsWith bs (length env.spelled) env.at_packages) there env.count;
      packages = env.packages;
      paths = env.paths;
    }) in
    rw (header, strings, body, index, ← env.whole, ← env.resolved) refl

-- ---- an envelope and a breach

pub one_envelope : (own bytes : List ℕ) (a b : FullFile) → Envelope own bytes a → Envelope own bytes b → a ≡ b
one_envelope own bytes a b first second = done_is a b (sym (file_again own bytes a first) ∙ file_again own bytes b second)

abbrev failed : ByteFault → Result FullFile ByteFault
failed f = Err f

failed_is : (a b : ByteFault) → failed a ≡ failed b → a ≡ b
failed_is a b e = cc

pub one_breach : (own bytes : List ℕ) (a b : ByteFault) → FirstBreach own bytes a → FirstBreach own bytes b → a ≡ b
one_breach own bytes a b first second = failed_is a b (sym first ∙ second)

pub never_both : (own bytes : List ℕ) (file : FullFile) (f : ByteFault) → Envelope own bytes file → FirstBreach own bytes f → ⊥
never_both own bytes file f env breach = clash (file_again own bytes file env) breach
  where
    clash : {r : Result FullFile ByteFault} → r ≡ Ok file → r ≡ Err f → ⊥
    clash there failed = cc

are_bytes : (bytes : List ℕ) → AllByRecursion (λ b. b < 256) bytes → IsBytes bytes
are_bytes [] all i = omega arith
are_bytes (b ∷ bytes) all zero = all.0
are_bytes (b ∷ bytes) all (suc i) = are_bytes bytes all.1 i

pub envelope_or_breach : (own bytes : List ℕ) → AllByRecursion (λ b. b < 256) bytes → ((file : FullFile) × Envelope own bytes file) ⊎ ((f : ByteFault) × FirstBreach own bytes f)
envelope_or_breach own bytes all = decided (full_file_of own bytes) refl
  where
    decided : (r : Result FullFile ByteFault) → full_file_of own bytes ≡ r → ((file : FullFile) × Envelope own bytes file) ⊎ ((f : ByteFault) × FirstBreach own bytes f)
    decided (Ok file) e = inl (file, file_takes own bytes file (are_bytes bytes all) e)
    decided (Err f) e = inr (f, e)
