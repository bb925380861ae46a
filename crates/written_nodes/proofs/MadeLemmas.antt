-- What was made stays as nodes are added, and one more is noted.
use Rattle.std.proofs.Common.{◌≡◌, ℕ, ◌<◌, Bool, true, false, cond, List, [], length, map, Some, None, refl, ap, sym, subst, ◌∙◌, arith}
use Rattle.std.specs.Prelude.{nat_eq, Result, Ok, Err, OnOk, OnErr}
use Rattle.std.specs.List.{AllByRecursion}
use Rattle.std.specs.Option.{unwrap_or}
use Rattle.std.proofs.lemmas.Bool.{eqb-true}
use Rattle.std.proofs.lemmas.Cmp.{nat_eq_equiv}
use Rattle.type_terms.specs.declared.descriptors.Node.{Node}
use Rattle.type_terms.specs.Arenas.{Contents, AllBelow, IsArena, Extends}
use Rattle.type_terms.specs.Denotation.{tree}
use Rattle.type_terms.specs.Extensions.{extends_tree, extends_longer}
use Rattle.written_types.specs.Written.{full, written}
use Rattle.written_nodes.specs.Pools.{Made, made_for, number_for, IsMade, IsWritten, AreWritten}
use Rattle.written_nodes.specs.Searching.{Notes}
use Rattle.written_nodes.proofs.ListLemmas.{all_mapped, all_weaker}

pub number_is : (made : Made) (id own : ℕ) → made_for made id ≡ Some own → number_for made id ≡ own
number_is made id own e = ap (λ o. unwrap_or o id) e

module _ (from to : List Node) (made : Made) (are : AreWritten from to made) where
  pub children_right : (ids : List ℕ) → AllByRecursion (IsMade made) ids → AllByRecursion (λ c. tree to (number_for made c) ≡ written full (tree from c)) ids
  children_right ids all = all_weaker (IsMade made) (λ c. tree to (number_for made c) ≡ written full (tree from c)) (λ c one. ap (tree to) (number_is made c one.0 one.1) ∙ (are.each c one.0 one.1).denotes) ids all

  pub children_below : (ids : List ℕ) → AllByRecursion (IsMade made) ids → AllBelow (length to) (map (number_for made) ids)
  children_below ids all =
      all_mapped (λ n. n < length to) (number_for made) ids (all_weaker (IsMade made) (λ c. number_for made c < length to) (λ c one. subst (λ n. n < length to) (sym (number_is made c one.0 one.1)) (are.each c one.0 one.1).within) ids all)

pub written_later : (from : List Node) (old new : Contents) (id own : ℕ) → Extends old new → IsWritten from old.nodes id own → IsWritten from new.nodes id own
written_later from old new id own grown was = record {
  there = was.there;
  within = let longer = extends_longer old new grown in let w = was.within in omega arith;
  denotes = extends_tree old new grown own was.within ∙ was.denotes;
}

pub all_later : (from : List Node) (old new : Contents) (made : Made) → Extends old new → IsArena new.nodes → AreWritten from old.nodes made → AreWritten from new.nodes made
all_later from old new made grown arena are = record { arena = arena; each = λ id own e. written_later from old new id own grown (are.each id own e) }

-- the arena whose nodes are written may be extended
pub pool_later : (old new : Contents) (to : List Node) (made : Made) → Extends old new → AreWritten old.nodes to made → AreWritten new.nodes to made
pool_later old new to made grown are = record { arena = are.arena; each = each }
  where
    each : (id own : ℕ) → made_for made id ≡ Some own → IsWritten new.nodes to id own
    each id own e =
        let was = are.each id own e in
        record {
          there = let longer = extends_longer old new grown in let t = was.there in omega arith;
          within = was.within;
          denotes = was.denotes ∙ ap (written full) (sym (extends_tree old new grown id was.there));
        }

module _ (old new : Made) (id own : ℕ) (notes : Notes old new id own) where
  pub noted_itself : IsMade new id
  noted_itself = (own, notes id ∙ ap (λ b. cond b (Some own) (made_for old id)) (nat_eq_equiv.refl id))

  pub noted_stays : (other : ℕ) → IsMade old other → IsMade new other
  noted_stays other was = by (nat_eq id other) (notes other)
    where
      by : (b : Bool) → made_for new other ≡ cond b (Some own) (made_for old other) → IsMade new other
      by true e = (own, e)
      by false e = (was.0, e ∙ was.1)

  pub noted_written : (from : List Node) (before now : Contents) → Extends before now → IsArena now.nodes → AreWritten from before.nodes old → IsWritten from now.nodes id own → AreWritten from now.nodes new
  noted_written from before now grown arena were itself = record { arena = arena; each = λ other target is. by other target (nat_eq id other) refl (sym (notes other) ∙ is) }
    where
      by : (other target : ℕ) (b : Bool) → nat_eq id other ≡ b → cond b (Some own) (made_for old other) ≡ Some target → IsWritten from now.nodes other target
      by other target true e there =
          let same : other ≡ id = sym (eqb-true id other e) in
          let equal : own ≡ target = cc in
          subst (λ n. IsWritten from now.nodes n target) (sym same) (subst (IsWritten from now.nodes id) equal itself)
      by other target false e there = written_later from before now other target grown (were.each other target there)

pub no_arena : IsArena []
no_arena = record { falls = λ n node is. absurd cc; apart = λ m n node is. absurd cc; generic = λ n below. absurd (omega arith) }

-- nothing was made yet
pub none_written : (from : List Node) (made : Made) → ((id : ℕ) → made_for made id ≡ None) → AreWritten from [] made
none_written from made none = record { arena = no_arena; each = λ id own e. let empty = none id in absurd cc }

-- what was made is noted, or memory was wanting and all is as before
pub note_written : {T E : Type 0} (result : Result T E) (old new : Made) (id own : ℕ) → OnOk result (Notes old new id own) → OnErr result (new ≡ old)
    → (from : List Node) (before now : Contents) → Extends before now → IsArena now.nodes → AreWritten from before.nodes old → IsWritten from now.nodes id own → AreWritten from now.nodes new
note_written (Ok x) old new id own noted refused from before now grown arena were itself = noted_written old new id own noted from before now grown arena were itself
note_written (Err e) old new id own noted refused from before now grown arena were itself = subst (AreWritten from now.nodes) (sym refused) (all_later from before now old grown arena were)
