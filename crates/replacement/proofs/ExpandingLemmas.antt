-- What is kept on the way of an expansion.
use Rattle.std.proofs.Common.{◌≡◌, ℕ, ◌+◌, ◌-◌, ◌<◌, ◌≤◌, zero, suc, false, cond, List, [], ◌∷◌, ◌++◌, length, length-append, Option, Some, None, Ok, Err, ap, sym, subst, ◌∙◌, arith}
use Rattle.std.specs.Prelude.{Result, Bool, IsSomeAnd}
use Rattle.std.specs.List.{list_any, Contains}
use Rattle.std.proofs.lemmas.Map.Views.{list_any-from_Contains}
use Rattle.environments.specs.Environments.{Entry}
use Rattle.type_terms.specs.Arenas.{Contents, Extends}
use Rattle.type_terms.specs.Extensions.{extends_tree, extends_longer}
use Rattle.type_terms.specs.Denotation.{tree}
use Rattle.std.proofs.lemmas.Map.Made.{length-le_from_is_member}
use Rattle.go_values.specs.declared.qualified.QName.{QName}
use Rattle.go_values.specs.contracts.qualified.QNameEq.TheImpl.Laws as qname_laws
use Rattle.type_terms.specs.Trees.{Tree}
use Rattle.type_terms.specs.TreeEquality.{same_name}
use Rattle.replacement.specs.declared.faults.SetFault.{SetFault}
use Rattle.replacement.specs.declared.faults.SetFault.TheVariants.{AliasCycle}
use Rattle.replacement.specs.Expansion.{Entries, Applied, AreNames, then, alias_use, alias_right, led, expanded_from, expanded}
use Rattle.replacement.specs.Calls.{LeadsTo, itself, further, AsksAlias, OpensAlias, AsksExpanding, OpensExpanding, OpensSide, IsLed, Leads, Stops, Gives}
use Rattle.environments.specs.OpenedTypes.{AddsAmong}
use Rattle.replacement.proofs.KeptLemmas.{stops_later, stops_more}
use Rattle.replacement.proofs.ExpansionLemmas.{AreMet, alias_known, one_more, none_met}

pub are_names : (entries : Entries) (names : List QName)
    → ((q : QName) (entry : Entry) → entries q ≡ Some entry → Contains names q) → AreNames entries names
are_names entries names finite = λ q entry is. list_any-from_Contains qname_laws.laws-law q names (finite q entry is)

-- what stops the right side of the alias at the head stops a turn
pub led_stops : (entries : Entries) (met : List QName) (type : Tree) (head : Applied) → alias_use type ≡ Some head → list_any (same_name head.name) met ≡ false
    → (before : Contents) (full : Option Bool) (fault : SetFault)
    → Stops (OpensSide (entries head.name) (alias_right entries head)) before full fault (alias_right entries head ≡ Err fault)
    → Stops (OpensAlias entries type) before full fault ((more : List QName → Tree → Result Tree SetFault) → led entries more met type (alias_use type) ≡ Err fault)
led_stops entries met type head used fresh before full fault stops =
    stops_more (OpensSide (entries head.name) (alias_right entries head)) (OpensAlias entries type) before
    (λ opened held. subst (λ o. IsSomeAnd o (λ h. OpensSide (entries h.name) (alias_right entries h) opened)) (sym used) held) full fault _ _
    (λ is more. ap (led entries more met type) used
    ∙ ap (λ b. cond {A = Result Tree SetFault} b (Err (AliasCycle head.name)) (then (alias_right entries head) (more (met ++ head.name ∷ [])))) fresh
    ∙ ap (λ r. then r (more (met ++ head.name ∷ []))) is) stops

-- The rest of the expansion gives what the whole does.
pub record IsExpanding (entries : Entries) (names : List QName) (first now : Tree) (met : List QName) : Type 0 where
  pub are : AreMet names met
  pub same : (n : ℕ) → n + length met ≡ length names → expanded_from entries n met now ≡ expanded entries names first
  pub leads : (end : Tree) → LeadsTo entries now end → LeadsTo entries first end

module _ (entries : Entries) (names : List QName) (are : AreNames entries names) where
  room : (met : List QName) → AreMet names met → length met ≤ length names
  room met was = length-le_from_is_member qname_laws.laws-law met names was.distinct was.among

  pub begins : (first : Tree) → IsExpanding entries names first first []
  begins first = record {
    are = none_met entries names are;
    same = λ n count. let e : n ≡ length names = omega (arith, count) in ap (λ n. expanded_from entries n [] first) e;
    leads = λ end way. way;
  }

  led_goes : (more : List QName → Tree → Result Tree SetFault) (met : List QName) (type right : Tree) (head : Applied)
      → alias_use type ≡ Some head → list_any (same_name head.name) met ≡ false → alias_right entries head ≡ Ok right
      → led entries more met type (alias_use type) ≡ more (met ++ head.name ∷ []) right
  led_goes more met type right head use_is fresh right_is =
      ap (led entries more met type) use_is
      ∙ ap (λ b. cond {A = Result Tree SetFault} b (Err (AliasCycle head.name)) (then (alias_right entries head) (more (met ++ head.name ∷ [])))) fresh
      ∙ ap (λ r. then r (more (met ++ head.name ∷ []))) right_is

  module _ (first now : Tree) (met : List QName) (was : IsExpanding entries names first now met) where
    pub turns : (new : List QName) (right : Tree) → IsLed entries met now new right → IsExpanding entries names first right new
    unfolding expanded_from
    turns new right goes = record {
      are = subst (AreMet names) (sym goes.met) (one_more entries names are met goes.head.name was.are goes.fresh (alias_known entries names are goes.head right goes.right_is));
      same = λ n count.
          let longer = ap length goes.met ∙ length-append met (goes.head.name ∷ []) in
          let e : suc n + length met ≡ length names = omega (arith, count, longer) in
          ap (λ m. expanded_from entries n m right) goes.met
          ∙ sym (led_goes (expanded_from entries n) met now right goes.head goes.use_is goes.fresh goes.right_is)
          ∙ was.same (suc n) e;
      leads = λ end way. was.leads end (further now goes.head right end goes.use_is goes.right_is way);
    }

    -- the names that are still to be met
    pub falls : (new : List QName) (right : Tree) → IsLed entries met now new right → length names - length new < length names - length met
    falls new right goes =
        let after = room new (turns new right goes).are in
        let longer = ap length goes.met ∙ length-append met (goes.head.name ∷ []) in
        omega (arith, after, longer)

    -- what each turn gives, the whole does
    gives : (want : Result Tree SetFault)
        → ((more : List QName → Tree → Result Tree SetFault) → led entries more met now (alias_use now) ≡ want)
        → (n : ℕ) → expanded_from entries n met now ≡ want
    unfolding expanded_from
    gives want each zero = each (λ _ type. Ok type)
    gives want each (suc n) = each (expanded_from entries n)

    pub whole_gives : (want : Result Tree SetFault)
        → ((more : List QName → Tree → Result Tree SetFault) → led entries more met now (alias_use now) ≡ want)
        → expanded entries names first ≡ want
    whole_gives want each =
        let within = room met was.are in
        let n = length names - length met in
        let count : n + length met ≡ length names = omega (arith, within) in
        sym (was.same n count) ∙ gives want each n

    pub settles : alias_use now ≡ None → expanded entries names first ≡ Ok now
    settles none = whole_gives (Ok now) (λ more. ap (led entries more met now) none)

    -- what is asked for and opened on the way is of the whole
    pub head_asked : (q : QName) → AsksAlias now q → AsksExpanding entries first q
    head_asked q held = (now, was.leads now (itself now), held)

    pub head_opened : (opened : Tree) → OpensAlias entries now opened → OpensExpanding entries first opened
    head_opened opened held = (now, was.leads now (itself now), held)

    -- a turn by what an environment has later, which is the same
    module _ (later : Entries) (stay : later ≡ entries) (new : List QName) (before arena : Contents) (full : Option Bool) where
      pub later_opened : (opened : Tree) → OpensAlias later now opened → OpensExpanding entries first opened
      later_opened opened held = head_opened opened (subst (λ e. OpensAlias e now opened) stay held)

      pub led_on : (id : ℕ) → Leads later met now new before arena full (Ok (Some id)) → IsLed entries met now new (tree arena.nodes id)
      led_on id leads = subst (λ e. IsLed e met now new (tree arena.nodes id)) stay leads.0

      pub stopped : (start : Contents) → Extends start before → AddsAmong (OpensExpanding entries first) start before
          → (fault : SetFault) → Leads later met now new before arena full (Err fault)
          → Gives (OpensExpanding entries first) start arena full (Err fault) (expanded entries names first)
      stopped start grown adds fault leads = stops_later (OpensAlias later now) (OpensExpanding entries first) start before later_opened grown adds full fault _ _
          (λ each. whole_gives (Err fault) (λ more. subst (λ e. led e more met now (alias_use now) ≡ Err fault) stay (each more))) leads

      -- the head is no alias, and what was added since then changes no node
      pub ended : (start : Contents) (id : ℕ) → now ≡ tree before.nodes id → Extends before arena → id < length before.nodes
          → Leads later met now new before arena full (Ok None) → Gives (OpensExpanding entries first) start arena full (Ok id) (expanded entries names first)
      ended start id is grown below none =
          let longer = extends_longer before arena grown in
          let within : id < length arena.nodes = omega (arith, below, longer) in
          (settles none ∙ ap Ok (is ∙ sym (extends_tree before arena grown id below)), within)
