-- The loop over open descriptors: what it keeps, and that it ends.
use Rattle.std.proofs.Common.{◌≡◌, ℕ, suc, ◌+◌, ◌-◌, ◌*◌, ◌^◌, ◌<◌, ◌≤◌, List, [], ◌∷◌, ◌++◌, length, map, drop, take, Result, Ok, Err, Option, Some, None, refl, sym, ap, subst, ◌∙◌, arith}
use Rattle.std.specs.Prelude.{slice_index_or}
use Rattle.std.proofs.Math.Seq.{drop-cons, take-suc, drop-length}
use Rattle.std.proofs.Math.ListN.{drop_of_length-le}
use Rattle.decl_spelling.proofs.Bounds.{bind_same}
use Rattle.std.specs.List.{AllByRecursion}
use Rattle.wire_bytes.specs.declared.fault.ByteFault.{ByteFault}
use Rattle.wire_bytes.specs.declared.fault.ReadFault.{ReadFault}
use Rattle.wire_bytes.specs.declared.fault.ReadFault.TheVariants as reading
use Rattle.wire_bytes.specs.Reading.{◌>>=◌}
use Rattle.decl_spelling.specs.declared.mention.Mention.{Mention}
use Rattle.decl_spelling.specs.Sections.{Sections}
use Rattle.decl_spelling.specs.Tables.{Table}
use Rattle.decl_spelling.specs.Descent.{resolve, resolve_all}
use Rattle.decl_spelling.specs.KnownTypes.{IsAnswered}
use Rattle.decl_spelling.proofs.KnownTypeLemmas.{answered_still}
use Rattle.std.specs.Prelude.{reverse}
use Rattle.std.proofs.Math.Nat.{one-le-pow, pow-le-pow_right, pow-suc, suc-mul, mul-add, mul_comm, mul-le-mul_right}
use Rattle.std.proofs.lemmas.List.{reverse-append, reverse-reverse}
use Rattle.decl_reader.specs.declared.descent.Open.{Open}
use Rattle.decl_reader.specs.Frames.{closed, closed_by, resume}
use Rattle.decl_reader.specs.Opens.{IsOpen, IsOwn, IsBelow, IsBegun, IsClosed, EndsBefore, AreHolders, Begins, Resolves, reads, resumed, frame_of, holder_of, own_shape}
use Rattle.decl_reader.proofs.ResumeLemmas.{turn_known, turn_fault, turn_opens, turn_closes}

-- one more of its mentions is known
abbrev pub one_more : Open → Open
one_more o = record { start = o.start; own = o.own; mentions = o.mentions; known = o.known + 1; named = o.named }

abbrev first_or : Mention → List Mention → Mention
first_or d [] = d
first_or d (m ∷ ms) = m

-- ---- that the loop ends: a turn makes this smaller

-- each mention that is left may open descriptors below, of which each has so many mentions at the most
abbrev pub weight : ℕ → ℕ → ℕ → ℕ
weight most left start = 1 + left * (most + 2) ^ start

abbrev pub open_weight : ℕ → Open → ℕ
open_weight most o = weight most (length o.mentions.items - o.known) o.start

abbrev pub holder_weight : ℕ → Open → ℕ
holder_weight most o = weight most (length o.mentions.items - (o.known + 1)) o.start

abbrev pub holders_weight : ℕ → List Open → ℕ
holders_weight most [] = 0
holders_weight most (o ∷ os) = holder_weight most o + holders_weight most os

abbrev pub all_weight : ℕ → Open → List Open → ℕ
all_weight most current holders = open_weight most current + holders_weight most holders

-- ---- what the loop keeps

pub record Running (src : Sections) (first : Open) (done now : Table) (current : Open) (holders : List Open) : Type 0 where
  pub is_open : IsOpen src now current
  pub holders_are : AreHolders src now current holders
  pub same : resumed src current holders now ≡ resumed src first [] done

-- nothing else is open at first
pub running_begins : (src : Sections) (first : Open) (done : Table) (holders : List Open) → holders ≡ [] → IsOpen src done first → Running src first done done first holders
running_begins src first done holders none is_open =
    subst (Running src first done done first) (sym none) (record { is_open = is_open; holders_are = tt; same = refl })

-- the next mention
more_is : (k : ℕ) → suc k ≡ k + 1
more_is k = omega arith

pub next_is : {X : Type 0} (xs : List X) (k : ℕ) (d : X) → k < length xs → drop k xs ≡ slice_index_or xs k d ∷ drop (k + 1) xs
next_is {X} xs k d h = drop-cons xs k d h ∙ ap (λ (n : ℕ). slice_index_or xs k d ∷ drop n xs) (more_is k)

all_taken : {X : Type 0} (P : X → Type 0) (xs : List X) (k : ℕ) (d : X) → k < length xs → AllByRecursion P (take k xs) → P (slice_index_or xs k d) → AllByRecursion P (take (k + 1) xs)
all_taken {X} P xs k d h all one =
    subst (λ (ys : List X). AllByRecursion P ys) (sym (take-suc xs k d h) ∙ ap (λ (n : ℕ). take n xs) (more_is k)) (both (take k xs) all)
  where
    both : (ys : List X) → AllByRecursion P ys → AllByRecursion P (ys ++ slice_index_or xs k d ∷ [])
    both [] all = (one, tt)
    both (y ∷ ys) all = (all.0, both ys all.1)

weaker_all : (P Q : Mention → Type 0) → ((m : Mention) → P m → Q m) → (ms : List Mention) → AllByRecursion P ms → AllByRecursion Q ms
weaker_all P Q step [] all = tt
weaker_all P Q step (m ∷ ms) all = (step m all.0, weaker_all P Q step ms all.1)

-- ---- the three turns

module _ (src : Sections) (first : Open) (done now : Table) (current : Open) (holders : List Open) (d : Mention) where
  abbrev next : Mention
  next = slice_index_or current.mentions.items current.known d

  abbrev rest : List Mention
  rest = drop (current.known + 1) current.mentions.items

  left_is : current.known < length current.mentions.items → drop current.known current.mentions.items ≡ next ∷ rest
  left_is h = next_is current.mentions.items current.known d h

  one_more_open : IsOpen src now current → current.known < length current.mentions.items → IsAnswered src now current.start next → IsOpen src now (one_more current)
  one_more_open is h answered = record {
    its_start = is.its_start;
    inside = is.inside;
    ends = is.ends;
    few = is.few;
    some = omega arith;
    answered = all_taken (IsAnswered src now current.start) current.mentions.items current.known d h is.answered answered;
    own = is.own;
  }

  holders_for : (inner other : Open) (os : List Open) → inner.named ≡ other.named → ((offset : ℕ) → IsBelow inner offset → IsBelow other offset) → AreHolders src now inner os → AreHolders src now other os
  holders_for inner other [] named below are = tt
  holders_for inner other (o ∷ os) named below are = (are.0, are.1, subst (λ (m : Mention). drop o.known o.mentions.items ≡ m ∷ drop (o.known + 1) o.mentions.items) named are.2, below o.start are.3, are.4)

  -- the next mention is known already
  pub goes_on : Running src first done now current holders → current.known < length current.mentions.items → (resolve src (reads src) current.start next now ≡ Ok now) × IsAnswered src now current.start next
      → Running src first done now (one_more current) holders
  goes_on running h known = record {
    is_open = one_more_open running.is_open h known.1;
    holders_are = holders_for current (one_more current) holders refl (λ offset below. below) running.holders_are;
    same = sym (turn_known src (reads src) (frame_of current) (map holder_of holders) next rest now (left_is h) known.0) ∙ running.same;
  }

  -- a fault of the next mention
  pub stops : (f : ByteFault) → Running src first done now current holders → current.known < length current.mentions.items → resolve src (reads src) current.start next now ≡ Err f → resumed src first [] done ≡ Err f
  stops f running h fault = sym running.same ∙ turn_fault src (reads src) (frame_of current) (map holder_of holders) next rest now f (left_is h) fault

  -- it names a descriptor that is opened
  pub opens : (inner : Open) → Running src first done now current holders → current.known < length current.mentions.items → IsBegun src now current.start next inner
      → Running src first done now inner (current ∷ holders)
  opens inner running h begun = record {
    is_open = begun.is_open;
    holders_are = (running.is_open, h, left_is h ∙ ap (λ (m : Mention). m ∷ rest) (sym begun.its_mention), begun.below, running.holders_are);
    same = sym (turn_opens src (reads src) (frame_of current) (map holder_of holders) next rest now (frame_of inner) (left_is h) opened) ∙ running.same;
  }
    where
      whole : drop inner.known inner.mentions.items ≡ inner.mentions.items
      whole = ap (λ (k : ℕ). drop k inner.mentions.items) begun.fresh

      opened : resolve src (reads src) current.start next now ≡ (resolve_all src (reads src) inner.start (drop inner.known inner.mentions.items) now >>= closed src.version (frame_of inner))
      opened =
          begun.turn
          ∙ ap (λ (ms : List Mention). resolve_all src (reads src) inner.start ms now >>= closed_by src.version inner.start next (own_shape inner.own)) (sym whole)
          ∙ ap (λ (m : Mention). resolve_all src (reads src) inner.start (drop inner.known inner.mentions.items) now >>= closed_by src.version inner.start m (own_shape inner.own)) (sym begun.its_mention)

-- ---- a descriptor is closed

drop_all : {X : Type 0} (xs : List X) (k : ℕ) → k ≡ length xs → drop k xs ≡ []
drop_all {X} xs k h = ap (λ (n : ℕ). drop n xs) h ∙ drop-length xs

module _ (src : Sections) (first : Open) (done was is_now : Table) (current : Open) where
  room_stays : (o : Open) → IsClosed src was is_now current → IsBelow current o.start → IsOwn was o.start o.mentions.items o.own → IsOwn is_now o.start o.mentions.items o.own
  room_stays o is_closed below own = by o.own own
    where
      by : (own : Result (_ × ℕ) ByteFault) → IsOwn was o.start o.mentions.items own → IsOwn is_now o.start o.mentions.items own
      by (Ok x) own = (own.0, own.1, own.2, is_closed.room o.start x.1 below own.3)
      by (Err f) own = tt

  open_stays : (o : Open) → IsClosed src was is_now current → IsBelow current o.start → IsOpen src was o → IsOpen src is_now o
  open_stays o is_closed below is = record {
    its_start = is.its_start;
    inside = is.inside;
    ends = is.ends;
    few = is.few;
    some = is.some;
    answered = weaker_all (IsAnswered src was o.start) (IsAnswered src is_now o.start) (λ m. answered_still src was is_now o.start m is_closed.kept) (take o.known o.mentions.items) is.answered;
    own = room_stays o is_closed below is.own;
  }

  ends_later : (offset higher : ℕ) → offset < higher → IsBelow current offset → IsBelow current higher
  ends_later offset higher less below = (omega (arith, below.0), by current.own below.1)
    where
      by : (own : Result (_ × ℕ) ByteFault) → EndsBefore own offset → EndsBefore own higher
      by (Ok x) ends = omega arith
      by (Err f) ends = tt

  holders_stay : (inner : Open) (os : List Open) → IsClosed src was is_now current → IsBelow current inner.start → AreHolders src was inner os → AreHolders src is_now inner os
  holders_stay inner [] is_closed below are = tt
  holders_stay inner (o ∷ os) is_closed below are =
      let under : IsBelow current o.start = ends_later inner.start o.start are.3.0 below in
      (open_stays o is_closed under are.0, are.1, are.2, are.3, holders_stay o os is_closed under are.4)

  -- nothing is open any more
  pub ends : Running src first done was current [] → current.known ≡ length current.mentions.items → closed src.version (frame_of current) was ≡ Ok is_now → resumed src first [] done ≡ Ok is_now
  ends running all finished =
      sym running.same ∙ turn_closes src (reads src) (frame_of current) [] was (drop_all current.mentions.items current.known all)
      ∙ ap (λ (r : Result Table ByteFault). r >>= resume src (reads src) []) finished

  -- its fault is the first one
  pub faults_at : (holders : List Open) (f : ByteFault) → Running src first done was current holders → current.known ≡ length current.mentions.items → closed src.version (frame_of current) was ≡ Err f → resumed src first [] done ≡ Err f
  faults_at holders f running all fault =
      sym running.same ∙ turn_closes src (reads src) (frame_of current) (map holder_of holders) was (drop_all current.mentions.items current.known all)
      ∙ ap (λ (r : Result Table ByteFault). r >>= resume src (reads src) (map holder_of holders)) fault

  -- its holder goes on
  pub returns_to : (holder : Open) (holders : List Open) → Running src first done was current (holder ∷ holders) → current.known ≡ length current.mentions.items → closed src.version (frame_of current) was ≡ Ok is_now
      → IsClosed src was is_now current → Running src first done is_now (one_more holder) holders
  returns_to holder holders running all finished is_closed =
      let are = running.holders_are in
      let stays : IsOpen src is_now holder = open_stays holder is_closed are.3 are.0 in
      let named : slice_index_or holder.mentions.items holder.known current.named ≡ current.named
      = head_is (sym (next_is holder.mentions.items holder.known current.named are.1) ∙ are.2) in
      record {
        is_open = one_more_open src first done is_now holder holders current.named stays are.1 (subst (IsAnswered src is_now holder.start) (sym named) (is_closed.answered holder.start are.3));
        holders_are = holders_for src first done is_now holder holders current.named holder (one_more holder) holders refl (λ offset below. below) (holders_stay holder holders is_closed are.3 are.4);
        same =
            sym (turn_closes src (reads src) (frame_of current) (holder_of holder ∷ map holder_of holders) was (drop_all current.mentions.items current.known all)
            ∙ ap (λ (r : Result Table ByteFault). r >>= resume src (reads src) (holder_of holder ∷ map holder_of holders)) finished)
            ∙ running.same;
      }
    where
      head_is : {x y : Mention} {xs ys : List Mention} → x ∷ xs ≡ y ∷ ys → x ≡ y
      head_is e = ap (λ (zs : List Mention). first_or current.named zs) e

-- ---- that the weight falls

more_pos : (most start : ℕ) → 0 < (most + 2) ^ start
more_pos most start = one-le-pow start (most + 2) (omega arith)

one_times : (n p : ℕ) → (1 + n) * p ≡ p + n * p
one_times n p = let is : 1 + n ≡ suc n = omega arith in ap (λ (m : ℕ). m * p) is ∙ suc-mul n p ∙ omega arith

pub known_smaller : (most : ℕ) (o : Open) (os : List Open) → o.known < length o.mentions.items → all_weight most (one_more o) os < all_weight most o os
known_smaller most o os h =
    let left = length o.mentions.items - (o.known + 1) in
    let is : length o.mentions.items - o.known ≡ 1 + left = omega arith in
    let some : 0 < (most + 2) ^ o.start = more_pos most o.start in
    let product : (length o.mentions.items - o.known) * (most + 2) ^ o.start ≡ (most + 2) ^ o.start + left * (most + 2) ^ o.start
    = ap (λ (n : ℕ). n * (most + 2) ^ o.start) is ∙ one_times left ((most + 2) ^ o.start) in
    omega (arith, product, some)

-- a descriptor below has no more left than one mention of its holder
below_smaller : (most many low high : ℕ) → low < high → many ≤ most → 1 + many * (most + 2) ^ low < (most + 2) ^ high
below_smaller most many low high below few =
    let p = (most + 2) ^ low in
    let some : 0 < (most + 2) ^ low = more_pos most low in
    let grows : (most + 2) ^ suc low ≤ (most + 2) ^ high = pow-le-pow_right (omega arith) (omega arith) in
    let times : (most + 2) ^ suc low ≡ (most + 2) ^ low * most + (most + 2) ^ low * 2 = pow-suc (most + 2) low ∙ mul-add ((most + 2) ^ low) most 2 in
    let most_of : many * (most + 2) ^ low ≤ (most + 2) ^ low * most = subst (λ (n : ℕ). many * (most + 2) ^ low ≤ n) (mul_comm most ((most + 2) ^ low)) (mul-le-mul_right ((most + 2) ^ low) few) in
    let twice : (most + 2) ^ low * 2 ≡ (most + 2) ^ low + (most + 2) ^ low = mul_comm ((most + 2) ^ low) 2 ∙ one_times 1 ((most + 2) ^ low) ∙ omega arith in
    omega (arith, grows, times, most_of, twice, some)

pub opens_smaller : (most : ℕ) (inner o : Open) (os : List Open) → o.known < length o.mentions.items → inner.start < o.start → inner.known ≡ 0 → length inner.mentions.items ≤ most
    → all_weight most inner (o ∷ os) < all_weight most o os
opens_smaller most inner o os h below fresh few =
    let left = length o.mentions.items - (o.known + 1) in
    let is : length o.mentions.items - o.known ≡ 1 + left = omega arith in
    let product : (length o.mentions.items - o.known) * (most + 2) ^ o.start ≡ (most + 2) ^ o.start + left * (most + 2) ^ o.start
    = ap (λ (n : ℕ). n * (most + 2) ^ o.start) is ∙ one_times left ((most + 2) ^ o.start) in
    let many : length inner.mentions.items - inner.known ≤ most = omega arith in
    omega (arith, product, below_smaller most (length inner.mentions.items - inner.known) inner.start o.start below many)

-- the innermost holder is the last one of the vector
pub last_first : {X : Type 0} (xs : List X) (x : X) → reverse (xs ++ x ∷ []) ≡ x ∷ reverse xs
last_first xs x = reverse-append xs (x ∷ [])

begin_fault : (src : Sections) (first : Open) (done now : Table) (current : Open) (holders : List Open) (d : Mention) (e : ReadFault) (t : Table) → Running src first done now current holders → current.known < length current.mentions.items
    → Begins src now current.start (slice_index_or current.mentions.items current.known d) (Err e) → Resolves (Err e) t (resumed src first [] done)
begin_fault src first done now current holders d (reading.Bytes f) t running h begins = stops src first done now current holders d f running h begins
begin_fault src first done now current holders d reading.OutOfMemory t running h begins = tt

-- ---- the turns, at the mention that the code has in hand

module _ (src : Sections) (first : Open) (done now : Table) (current : Open) (holders : List Open) (named : Mention) (is : named ≡ slice_index_or current.mentions.items current.known named) (running : Running src first done now current holders)
    (h : current.known < length current.mentions.items) where
  begins_at : (r : Result (Option Open) ReadFault) → Begins src now current.start named r → Begins src now current.start (slice_index_or current.mentions.items current.known named) r
  begins_at r begins = subst (λ (m : Mention). Begins src now current.start m r) is begins

  pub none_goes_on : (a : Option Open) → a ≡ None → Begins src now current.start named (Ok a) → Running src first done now (one_more current) holders
  none_goes_on a none begins =
      goes_on src first done now current holders named running h (subst (λ (x : Option Open). Begins src now current.start (slice_index_or current.mentions.items current.known named) (Ok x)) none (begins_at (Ok a) begins))

  some_begun : (a : Option Open) (inner : Open) → a ≡ Some inner → Begins src now current.start named (Ok a) → IsBegun src now current.start (slice_index_or current.mentions.items current.known named) inner
  some_begun a inner some begins = subst (λ (x : Option Open). Begins src now current.start (slice_index_or current.mentions.items current.known named) (Ok x)) some (begins_at (Ok a) begins)

  pub some_opens : (a : Option Open) (inner : Open) (pushed : List Open) → a ≡ Some inner → Begins src now current.start named (Ok a) → pushed ≡ reverse holders ++ current ∷ [] → Running src first done now inner (reverse pushed)
  some_opens a inner pushed some begins is_pushed =
      subst (λ (os : List Open). Running src first done now inner os)
      (sym (ap reverse is_pushed ∙ last_first (reverse holders) current ∙ ap (λ (os : List Open). current ∷ os) (reverse-reverse holders)))
      (opens src first done now current holders named inner running h (some_begun a inner some begins))

  pub some_smaller : (a : Option Open) (inner : Open) (pushed : List Open) → a ≡ Some inner → Begins src now current.start named (Ok a) → pushed ≡ reverse holders ++ current ∷ []
      → all_weight (length src.body) inner (reverse pushed) < all_weight (length src.body) current holders
  some_smaller a inner pushed some begins is_pushed =
      let begun = some_begun a inner some begins in
      subst (λ (os : List Open). all_weight (length src.body) inner os < all_weight (length src.body) current holders)
      (sym (ap reverse is_pushed ∙ last_first (reverse holders) current ∙ ap (λ (os : List Open). current ∷ os) (reverse-reverse holders)))
      (opens_smaller (length src.body) inner current holders h begun.below.0 begun.fresh begun.is_open.few)

  pub fault_resolves : (e : ReadFault) (t : Table) → Begins src now current.start named (Err e) → Resolves (Err e) t (resumed src first [] done)
  fault_resolves e t begins = begin_fault src first done now current holders named e t running h (begins_at (Err e) begins)

-- ---- what a block names, one mention after the other

then_done : (r : Result Table ByteFault) → (r >>= λ after. Ok after) ≡ r
then_done (Ok x) = refl
then_done (Err f) = refl

-- a descriptor that was just opened comes to what its mention does
pub begun_is : (src : Sections) (done : Table) (holder : ℕ) (named : Mention) (inner : Open) → IsBegun src done holder named inner → resumed src inner [] done ≡ resolve src (reads src) holder named done
begun_is src done holder named inner begun =
    bind_same (resolve_all src (reads src) inner.start (drop inner.known inner.mentions.items) done) (λ known. closed src.version (frame_of inner) known >>= λ after. Ok after) (closed src.version (frame_of inner)) (λ known. then_done (closed src.version (frame_of inner) known))
    ∙ ap (λ (k : ℕ). resolve_all src (reads src) inner.start (drop k inner.mentions.items) done >>= closed_by src.version inner.start inner.named (own_shape inner.own)) begun.fresh
    ∙ ap (λ (m : Mention). resolve_all src (reads src) inner.start inner.mentions.items done >>= closed_by src.version inner.start m (own_shape inner.own)) begun.its_mention
    ∙ sym begun.turn

pub resolves_as : (r : Result (Unit {0}) ReadFault) (t : Table) (a b : Result Table ByteFault) → a ≡ b → Resolves r t a → Resolves r t b
resolves_as r t a b same is = subst (λ (x : Result Table ByteFault). Resolves r t x) same is

-- What is still to be read comes to what was asked.
abbrev pub Reading : Sections → ℕ → List Mention → Table → Table → ℕ → Type 0
Reading src holder mentions done now index = resolve_all src (reads src) holder (drop index mentions) now ≡ resolve_all src (reads src) holder mentions done

module _ (src : Sections) (holder : ℕ) (mentions : List Mention) (done was : Table) (index : ℕ) (d : Mention) (so_far : Reading src holder mentions done was index) (h : index < length mentions) where
  abbrev mention : Mention
  mention = slice_index_or mentions index d

  first_of : resolve_all src (reads src) holder (drop index mentions) was ≡ (resolve src (reads src) holder mention was >>= resolve_all src (reads src) holder (drop (index + 1) mentions))
  first_of = ap (λ (ms : List Mention). resolve_all src (reads src) holder ms was) (next_is mentions index d h)

  pub reads_on : (is_now : Table) → resolve src (reads src) holder mention was ≡ Ok is_now → Reading src holder mentions done is_now (index + 1)
  reads_on is_now known = sym (first_of ∙ ap (λ (r : Result Table ByteFault). r >>= resolve_all src (reads src) holder (drop (index + 1) mentions)) known) ∙ so_far

  pub reading_stops : (e : ReadFault) (t : Table) → Resolves (Err e) t (resolve src (reads src) holder mention was) → Resolves (Err e) t (resolve_all src (reads src) holder mentions done)
  reading_stops (reading.Bytes f) t fault = sym so_far ∙ first_of ∙ ap (λ (r : Result Table ByteFault). r >>= resolve_all src (reads src) holder (drop (index + 1) mentions)) fault
  reading_stops reading.OutOfMemory t fault = tt

pub reading_ends : (src : Sections) (holder : ℕ) (mentions : List Mention) (done now : Table) (index : ℕ) → Reading src holder mentions done now index → length mentions ≤ index → resolve_all src (reads src) holder mentions done ≡ Ok now
reading_ends src holder mentions done now index so_far h =
    sym so_far ∙ ap (λ (ms : List Mention). resolve_all src (reads src) holder ms now) (drop_of_length-le mentions h)
