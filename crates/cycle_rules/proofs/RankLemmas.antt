-- From the components of the graphs to the ranks of the declarations.
use Rattle.std.proofs.Common.{◌≡◌, ◌≢◌, ℕ, ◌+◌, ◌<◌, ◌≤◌, List, [], ◌∷◌, ◌++◌, length, length-append, map, slice_get, Option, Some, None, refl, ◌∙◌, subst, inl, inr, arith}
use Rattle.std.specs.Prelude.{IfNone}
use Rattle.std.proofs.lemmas.List.{length-map}
use Rattle.cycle_rules.specs.declared.cycles.CycleKind.{CycleKind}
use Rattle.cycle_rules.specs.declared.cycles.CycleKind.TheVariants.{Contains, Embeds, OfAlias, Constraint, Value}
use Rattle.cycle_rules.specs.declared.cycles.Ranked.{Ranked}
use Rattle.cycle_rules.specs.declared.shapes.Form.{Form}
use Rattle.cycle_rules.specs.declared.shapes.DeclShape.{DeclShape}
use Rattle.cycle_rules.specs.Paths.{Path, edge, onward, Arrow}
use Rattle.cycle_rules.specs.Forms.{Content, parameter, shape, Holds, held, applied, part, argument, Fits, Owns}
use Rattle.cycle_rules.specs.Cycles.{targets_of, IsEdge, IsCyclic, place_of, IsRanked, IsFirstKind, AreFirstKinds, rank_in}
use Rattle.cycle_rules.proofs.FitsLemmas.{fits-Apply, fits-Parts, fits-Held}
use Rattle.cycle_rules.proofs.PlaceLemmas.{at_within, at-push_cases}

pub path_mapped : {R S : ℕ → ℕ → Type 0} {a b : ℕ} → ((c d : ℕ) → R c d → S c d) → Path R a b → Path S a b
path_mapped f (edge e) = edge (f _ _ e)
path_mapped f (onward e p) = onward (f _ _ e) (path_mapped f p)

-- the same relation, said in another way
pub ranked_mapped : {R S : ℕ → ℕ → Type 0} (count : ℕ) (ranked : Ranked) → ((c d : ℕ) → R c d → S c d) → ((c d : ℕ) → S c d → R c d) → IsRanked R count ranked → IsRanked S count ranked
ranked_mapped count ranked to from was = record {
  sized = was.sized;
  cyclic = record { sized = was.cyclic.sized; yes = λ v at. path_mapped to (was.cyclic.yes v at); no = λ v at p. was.cyclic.no v at (path_mapped from p) };
  falls = λ s t e none. was.falls s t (from s t e) (λ p. none (path_mapped to p));
}

-- the edges of a kind that is listed are those of the lists
pub edge_from : (shapes : List DeclShape) (kind : CycleKind) → kind ≢ Contains → (s t : ℕ) → Arrow (map (targets_of kind) shapes) s t → IsEdge shapes kind s t
edge_from shapes Contains other s t e = absurd (other refl)
edge_from shapes Embeds other s t e = e
edge_from shapes OfAlias other s t e = e
edge_from shapes Constraint other s t e = e
edge_from shapes Value other s t e = e

pub edge_to : (shapes : List DeclShape) (kind : CycleKind) → kind ≢ Contains → (s t : ℕ) → IsEdge shapes kind s t → Arrow (map (targets_of kind) shapes) s t
edge_to shapes Contains other s t e = absurd (other refl)
edge_to shapes Embeds other s t e = e
edge_to shapes OfAlias other s t e = e
edge_to shapes Constraint other s t e = e
edge_to shapes Value other s t e = e

-- what holds of each of the first so many kinds
pub each_kind : (P : CycleKind → Type 0) (n : ℕ) → (0 < n → P Contains) → (1 < n → P Embeds) → (2 < n → P OfAlias) → (3 < n → P Constraint) → (4 < n → P Value) → (k : CycleKind) → place_of k < n → P k
each_kind P n a b d e f Contains below = a below
each_kind P n a b d e f Embeds below = b below
each_kind P n a b d e f OfAlias below = d below
each_kind P n a b d e f Constraint below = e below
each_kind P n a b d e f Value below = f below

listed_within : (shapes : List DeclShape) (kind : CycleKind) (s t : ℕ) → Arrow (map (targets_of kind) shapes) s t → s < length shapes
listed_within shapes kind s t arrow = let w = at_within (map (targets_of kind) shapes) s arrow.targets arrow.from in omega (arith, length-map shapes (targets_of kind))

edge_within : (shapes : List DeclShape) (kind : CycleKind) (s t : ℕ) → IsEdge shapes kind s t → s < length shapes
edge_within shapes Contains s t owns = at_within shapes s owns.owner owns.at
edge_within shapes Embeds s t arrow = listed_within shapes Embeds s t arrow
edge_within shapes OfAlias s t arrow = listed_within shapes OfAlias s t arrow
edge_within shapes Constraint s t arrow = listed_within shapes Constraint s t arrow
edge_within shapes Value s t arrow = listed_within shapes Value s t arrow

-- what lies on a cycle is of the list
pub cyclic_within : (shapes : List DeclShape) (kind : CycleKind) (s : ℕ) → IsCyclic shapes kind s → s < length shapes
cyclic_within shapes kind s (edge e) = edge_within shapes kind _ _ e
cyclic_within shapes kind s (onward e p) = edge_within shapes kind _ _ e

-- one more declaration, with the first kind of which it lies on a cycle
pub kinds_more : (shapes : List DeclShape) (count : ℕ) (kinds : List (Option CycleKind)) (first : Option CycleKind) → AreFirstKinds shapes count kinds → IsFirstKind shapes count first → AreFirstKinds shapes (count + 1) (kinds ++ first ∷ [])
kinds_more shapes count kinds first was own = record {
  sized = length-append kinds (first ∷ []) ∙ omega (arith, was.sized);
  each = λ s kind at. elim (at-push_cases kinds first s kind at) [
    | inl old ↦ was.each s kind old
    | inr new ↦
        let same : count ≡ s = omega (arith, was.sized, new.0) in
        subst (λ (n : ℕ). IsFirstKind shapes n kind) same (subst (IsFirstKind shapes count) new.1 own)
  ];
}

pub ranked_listed : (shapes : List DeclShape) (kind : CycleKind) (graph : List (List ℕ)) (count : ℕ) (ranked : Ranked) → kind ≢ Contains → graph ≡ map (targets_of kind) shapes → count ≡ length shapes → IsRanked (Arrow graph) count ranked → IsRanked (IsEdge shapes kind) (length shapes) ranked
ranked_listed shapes kind graph count ranked other same sized was =
    ranked_mapped (length shapes) ranked (edge_from shapes kind other) (edge_to shapes kind other)
    (subst (λ (g : List (List ℕ)). IsRanked (Arrow g) (length shapes) ranked) same (subst (λ (n : ℕ). IsRanked (Arrow graph) n ranked) sized was))

pub ranked_contained : (shapes : List DeclShape) (graph rows : List (List ℕ)) (count : ℕ) (ranked : Ranked) → graph ≡ rows → count ≡ length shapes → ((s t : ℕ) → Arrow rows s t → Owns shapes s (shape t)) → ((s t : ℕ) → Owns shapes s (shape t) → Arrow rows s t) → IsRanked (Arrow graph) count ranked → IsRanked (IsEdge shapes Contains) (length shapes) ranked
ranked_contained shapes graph rows count ranked same sized sound every was =
    ranked_mapped (length shapes) ranked sound every
    (subst (λ (g : List (List ℕ)). IsRanked (Arrow g) (length shapes) ranked) same (subst (λ (n : ℕ). IsRanked (Arrow graph) n ranked) sized was))

-- what a form that fits contains is of the list, or one of the parameters
Within : List DeclShape → ℕ → Content → Type 0
Within shapes params (parameter i) = i < params
Within shapes params (shape t) = t < length shapes

content_within : {shapes : List DeclShape} {form : Form} {content : Content} (params : ℕ) → Fits shapes params form → Holds shapes form content → Within shapes params content
unfolding Within
content_within params fits (held i) = fits-Held _ i refl fits
content_within params fits (applied t arguments) = let enough = fits-Apply _ t arguments refl fits in at_within _ t enough.of enough.at
content_within params fits (part parts k form content here holds) = content_within params (fits-Parts _ parts refl fits k form here) holds
content_within params fits (argument t arguments k form of content there inner here holds) = content_within params ((fits-Apply _ t arguments refl fits).each k form here) holds

pub owned_within : (shapes : List DeclShape) → ((s : ℕ) (of : DeclShape) → slice_get shapes s ≡ Some of → Fits shapes of.params of.holds) → (s t : ℕ) → Owns shapes s (shape t) → t < length shapes
unfolding Within
owned_within shapes fit s t owns = content_within owns.owner.params (fit s owns.owner owns.at) owns.holds

pub own_parameters : (shapes : List DeclShape) → ((s : ℕ) (of : DeclShape) → slice_get shapes s ≡ Some of → Fits shapes of.params of.holds) → (s : ℕ) (of : DeclShape) → slice_get shapes s ≡ Some of → (k : ℕ) → of.params ≤ k → Owns shapes s (parameter k) → ⊥
unfolding Within
own_parameters shapes fit s of there k beyond owns =
    let own = owns.at in
    let same : owns.owner ≡ of = cc in
    let below = content_within owns.owner.params (fit s owns.owner owns.at) owns.holds in
    let few : k < of.params = subst (λ (z : DeclShape). k < z.params) same below in
    omega arith

-- with no cycle each edge leads to a smaller rank
pub falls_each : (shapes : List DeclShape) (n : ℕ) (a b d e f : Ranked) → IsRanked (IsEdge shapes Contains) n a → IsRanked (IsEdge shapes Embeds) n b → IsRanked (IsEdge shapes OfAlias) n d → IsRanked (IsEdge shapes Constraint) n e → IsRanked (IsEdge shapes Value) n f →
    ((kind : CycleKind) (s : ℕ) → IsCyclic shapes kind s → ⊥) → (kind : CycleKind) (s t : ℕ) → IsEdge shapes kind s t →
    rank_in (record { contains = a.ranks; embeds = b.ranks; aliases = d.ranks; constraints = e.ranks; values = f.ranks }) kind t < rank_in (record { contains = a.ranks; embeds = b.ranks; aliases = d.ranks; constraints = e.ranks; values = f.ranks }) kind s
falls_each shapes n a b d e f ra rb rd re rf none Contains s t step = ra.falls s t step (none Contains s)
falls_each shapes n a b d e f ra rb rd re rf none Embeds s t step = rb.falls s t step (none Embeds s)
falls_each shapes n a b d e f ra rb rd re rf none OfAlias s t step = rd.falls s t step (none OfAlias s)
falls_each shapes n a b d e f ra rb rd re rf none Constraint s t step = re.falls s t step (none Constraint s)
falls_each shapes n a b d e f ra rb rd re rf none Value s t step = rf.falls s t step (none Value s)

pub if_none : {X P : Type 0} (o : Option X) → o ≡ None → IfNone o P → P
if_none None e p = p
if_none (Some x) e p = absurd cc
