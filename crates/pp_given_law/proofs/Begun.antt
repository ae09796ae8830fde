-- What replies that begin leave: memory is refused for nobody, what each client is to be said first has room, and the bodies of exchanges.
use Rattle.std.proofs.Common.{◌≡◌, ◌≤◌, ◌<◌, ◌+◌, ◌-◌, ◌^◌, refl, sym, subst, ap, ◌∙◌, ℕ, Bool, true, false, ◌==◌, ◌&&◌, nat_le, nat_lt, not, cond, filter, find, map, length, List, [], ◌∷◌, Option, Some, None, arith}
use Rattle.std.proofs.Math.Nat.{min-le_right}
use Rattle.std.proofs.lemmas.Bool.Decides.{nat_tests}
use Rattle.std.specs.Prelude.{slice_get, slice_set}
use Rattle.pp_cache.specs.Memory.{Memory}
use Rattle.pp_cache_law.proofs.Numbers.{some_is}
use Rattle.pp_flow.specs.Changes.{Exchanges, changed, entry_of, first_of}
use Rattle.pp_flow.specs.Entries.{is_number, nobodys}
use Rattle.pp_flow.specs.declared.entry.Entry.{Entry}
use Rattle.pp_fresh.specs.Age.{age_of, within_64_bits}
use Rattle.pp_fresh.specs.declared.aging.Times.{Times}
use Rattle.pp_law.specs.Closing.{forsake}
use Rattle.pp_law.specs.Connections.{is_conn}
use Rattle.pp_law.specs.Replies.{begin_replies}
use Rattle.pp_law.specs.State.{State, Conn}
use Rattle.pp_law.specs.Table.{swept}
use Rattle.pp_laws_texts.proofs.Heads.{IsAge, page_len, part_len, unchanged_len, whole_len}
use Rattle.pp_objects.specs.Changes.{given_back, is_elsewhere, is_last, left, left_from}
use Rattle.pp_objects.specs.Instances.{Instance, followers_of, in_slot, is_in_slot, is_there}
use Rattle.pp_objects.specs.declared.id.ObjectId.{ObjectId}
use Rattle.pp_reply.specs.Kept.{kept_reply}
use Rattle.pp_reply.specs.declared.kept.KeptReply.{KeptReply}
use Rattle.pp_reply.specs.declared.kept.KeptReply.TheVariants.{Whole, Part, Head, NotModified, Unsatisfiable}
use Rattle.pp_rounds_law.proofs.Begun.{Begun, Was, all_begun}
use Rattle.pp_seats.specs.Dues.{is_refused_in}
use Rattle.pp_seats.specs.Heads.{asked_in}
use Rattle.pp_seats.specs.Seats.{passed_in}
use Rattle.pp_seats.specs.declared.front.Asked.{Asked}
use Rattle.pp_seats.specs.declared.seat.Answer.{Answer}
use Rattle.pp_seats.specs.declared.seat.Brought.{Brought}
use Rattle.pp_seats.specs.declared.seat.Passed.{Passed}
use Rattle.pp_seats.specs.declared.seat.Seat.{Seat}
use Rattle.pp_seats.specs.declared.seat.Stage.{Stage}
use Rattle.pp_seats.specs.declared.seat.Stage.TheVariants.{Undecided, Waiting, Passing, Answering}
use Rattle.pp_state.specs.Passing.{may_answer}
use Rattle.pp_state.specs.Places.{IsChangedIn}
use Rattle.pp_state.specs.declared.state.State.{State as Turn}
use Rattle.pp_stays_law.proofs.Walk.{AllAt, set_all}
use Rattle.pp_steps.specs.Begins.{BeginsAnswer, BeginsAt, BeginsBy, BeginsDecided, BeginsFrom, BeginsKept, BeginsOf, BeginsPassed, BeginsReplies, BeginsReply, BeginsRow, HasBegunPassed, HasBegunShown, IsKeptBegun, IsPassBegun, Kept, after_shown, age_shown, allowed, asked_by, can_show, has_plain_age, keeps_lines, kept_in, kept_of, left_unanswered, may_be_shown, may_begin, shown_of, shown_to, with_left, without_outrun, without_unanswered}
use Rattle.pp_text.specs.Fields.{Field}
use Rattle.pp_text.specs.Lines.{lines_of}
use Rattle.pp_turns_law.specs.Unseen.{IsCounted}
use Rattle.pp_world.specs.declared.note.Decision.{Decision}
use Rattle.pp_world.specs.declared.note.Decision.TheVariants.{Refuse, Hit, Part as PartOf, Head as HeadOf, NotModified as Unchanged, Unsatisfiable as NoneOf, Relay, Validate, Fetch, Pass}
use Rattle.pp_given_law.specs.Begins.{BodiesAreShort, CountedAsRepliesBegin, GivenAsRepliesBegin, TextsAsRepliesBegin}

-- ---- bodies are as short

found_short : (test : Instance → Bool) (is : List Instance) (x : Instance) → find test is ≡ Some x → BodiesAreShort is → x.version.length < 2 ^ 64
found_short test [] x found short = absurd (cc found)
found_short test (i ∷ is) x found short = by (test i) found (λ rest. found_short test is x rest short.1)
  where
    by : (b : Bool) → cond b (Some i) (find test is) ≡ Some x → (find test is ≡ Some x → x.version.length < 2 ^ 64) → x.version.length < 2 ^ 64
    by true at rest = subst (λ (y : Instance). y.version.length < 2 ^ 64) (some_is i x at) short.0
    by false at rest = rest at

short_filtered : (test : Instance → Bool) (is : List Instance) → BodiesAreShort is → BodiesAreShort (filter test is)
short_filtered test [] short = tt
short_filtered test (i ∷ is) short = by (test i) (short_filtered test is short.1)
  where
    by : (b : Bool) → BodiesAreShort (filter test is) → BodiesAreShort (cond b (i ∷ filter test is) (filter test is))
    by true rest = (short.0, rest)
    by false rest = rest

short_left : (slot : ℕ) (is : List Instance) → BodiesAreShort is → BodiesAreShort (map (λ i. cond (is_in_slot slot i) (left i) i) is)
short_left slot [] short = tt
short_left slot (i ∷ is) short = (by (is_in_slot slot i), short_left slot is short.1)
  where
    by : (b : Bool) → (cond b (left i) i).version.length < 2 ^ 64
    by true = short.0
    by false = short.0

short_from : (slot : ℕ) (o : Option Instance) (is : List Instance) → BodiesAreShort is → BodiesAreShort (left_from slot o is)
short_from slot o is short = by (is_last o)
  where
    by : (b : Bool) → BodiesAreShort (cond b (filter (is_elsewhere slot) is) (map (λ i. cond (is_in_slot slot i) (left i) i) is))
    by true = short_filtered (is_elsewhere slot) is short
    by false = short_left slot is short

short_with_left : (id : ObjectId) (m : Memory) → BodiesAreShort m.instances → BodiesAreShort (with_left id m).instances
short_with_left id m short = by (is_there id m.instances && nat_lt 0 (followers_of (in_slot id.slot m.instances)))
  where
    by : (b : Bool) → BodiesAreShort (elim b as (λ t. Memory) [
      | true ↦ record m { instances = left_from id.slot (in_slot id.slot m.instances) m.instances; chunks = given_back (is_last (in_slot id.slot m.instances)) id.slot m.chunks }
      | false ↦ m
    ]).instances
    by true = short_from id.slot (in_slot id.slot m.instances) m.instances short
    by false = short

-- ---- and the bodies of exchanges are the same

abbrev IsAlike : Option Entry → Option Entry → Type 0
IsAlike None None = Unit {0}
IsAlike None (Some e) = ⊥
IsAlike (Some d) None = ⊥
IsAlike (Some d) (Some e) = d.errand.body ≡ e.errand.body

alike_self : (o : Option Entry) → IsAlike o o
alike_self None = tt
alike_self (Some e) = refl

alike_then : (a b c : Option Entry) → IsAlike a b → IsAlike b c → IsAlike a c
alike_then None None None one two = tt
alike_then None None (Some e) one two = two
alike_then None (Some d) c one two = absurd one
alike_then (Some d) None c one two = absurd one
alike_then (Some d) (Some e) None one two = two
alike_then (Some d) (Some e) (Some f) one two = one ∙ two

alike_first : (a b c d : Option Entry) → IsAlike a b → IsAlike c d → IsAlike (first_of a c) (first_of b d)
alike_first None None c d one two = two
alike_first None (Some e) c d one two = absurd one
alike_first (Some x) None c d one two = absurd one
alike_first (Some x) (Some e) c d one two = one

alike_left : (m n : ℕ) (xs : List Entry) → IsAlike (find (is_number m) xs) (find (is_number m) (changed n nobodys xs))
alike_left m n [] = tt
alike_left m n (x ∷ xs) = by (is_number n x) (alike_left m n xs)
  where
    first : (c : Bool) → IsAlike (cond c (Some x) (find (is_number m) xs)) (cond c (Some (nobodys x)) (find (is_number m) xs))
    first true = refl
    first false = alike_self (find (is_number m) xs)

    at : (c : Bool) → IsAlike (find (is_number m) xs) (find (is_number m) (changed n nobodys xs)) → IsAlike (cond c (Some x) (find (is_number m) xs)) (cond c (Some x) (find (is_number m) (changed n nobodys xs)))
    at true rest = refl
    at false rest = rest

    by : (b : Bool) → IsAlike (find (is_number m) xs) (find (is_number m) (changed n nobodys xs)) → IsAlike (find (is_number m) (x ∷ xs)) (find (is_number m) (cond b (nobodys x ∷ xs) (x ∷ changed n nobodys xs)))
    by true rest = first (is_number m x)
    by false rest = at (is_number m x) rest

abbrev AreAlike : Exchanges → Exchanges → Type 0
AreAlike f g = (m : ℕ) → IsAlike (entry_of m f) (entry_of m g)

unanswered_alike : (n : ℕ) (o : Option Entry) (f : Exchanges) → AreAlike f (left_unanswered n o f)
unanswered_alike n None f m = alike_self (entry_of m f)
unanswered_alike n (Some e) f m = by e.exchange.headed
  where
    by : (b : Bool) → IsAlike (entry_of m f) (entry_of m (elim b as (λ t. Exchanges) [ true ↦ f | false ↦ record f { waiting = changed n nobodys f.waiting; placed = changed n nobodys f.placed } ]))
    by true = alike_self (entry_of m f)
    by false =
        alike_first (find (is_number m) f.waiting) (find (is_number m) (changed n nobodys f.waiting)) (find (is_number m) f.placed) (find (is_number m) (changed n nobodys f.placed)) (alike_left m n f.waiting) (alike_left m n f.placed)

outrun_alike : (client : ℕ) (f : Exchanges) → AreAlike f (without_outrun client f)
outrun_alike client f = by (asked_by client f)
  where
    by : (o : Option ℕ) → AreAlike f (without_unanswered o f)
    by None = λ m. alike_self (entry_of m f)
    by (Some n) = unanswered_alike n (entry_of n f) f

-- ---- the head that a reply begins with

abbrev HasRoom : Seat → Type 0
HasRoom seat = length seat.client.reply.text ≤ 20480

is_less : (m n : ℕ) → nat_lt m n ≡ true → m < n
is_less m n is = grind (arith, nat_tests)

is_within : (m n : ℕ) → nat_le m n ≡ true → m ≤ n
is_within m n is = grind (arith, nat_tests)

both_hold : (a b : Bool) → (a && b) ≡ true → (a ≡ true) × (b ≡ true)
both_hold true true is = (refl, refl)
both_hold true false is = absurd (cc is)
both_hold false b is = absurd (cc is)

age_fits : (id : ObjectId) (times : Times) (now : ℕ) (brought : Brought) → IsAge (age_shown id times now brought)
age_fits id times now brought = by (has_plain_age id brought)
  where
    within : (n : ℕ) → within_64_bits n < 2 ^ 64
    within n = let le : within_64_bits n ≤ 2 ^ 64 - 1 = min-le_right n (2 ^ 64 - 1) in omega arith

    by : (b : Bool) → IsAge (elim b as (λ t. Option ℕ) [ true ↦ None | false ↦ Some (age_of times now) ])
    by true = tt
    by false = within (times.initial + (now - times.response))

head_len : (shows : KeptReply) (n : ℕ) (fields : List Field) (age : Option ℕ) (name : List ℕ) (keep : Bool) → can_show shows n ≡ true → n < 2 ^ 64 → length (lines_of fields) ≤ 18432 → IsAge age → length name ≤ 64 → length (kept_reply shows n fields age name keep) ≤ 20480
head_len Whole n fields age name keep can fits lines is named = whole_len n fields age name keep fits lines is named
head_len (Part from to) n fields age name keep can fits lines is named =
    let its : (nat_lt from to ≡ true) × (nat_le to n ≡ true) = both_hold (nat_lt from to) (nat_le to n) can in
    let some : from < to = is_less from to its.0 in
    let within : to ≤ n = is_within to n its.1 in
    part_len from to n fields age name keep (omega (arith, some, within, fits)) (omega (arith, within, fits)) fits lines is named
head_len Head n fields age name keep can fits lines is named = whole_len n fields age name keep fits lines is named
head_len NotModified n fields age name keep can fits lines is named = unchanged_len fields age name keep lines is named
head_len Unsatisfiable n fields age name keep can fits lines is named = page_len n keep fits

-- what may be shown
record MayShow (shows : KeptReply) (k : Kept) : Type 0 where
  can : can_show shows k.version.length ≡ true
  lines : length (lines_of k.fields) ≤ 18432

may_show : (begun : Bool) (k : Kept) (o : Option KeptReply) (shows : KeptReply) → allowed begun k.version k.fields o ≡ Some shows → MayShow shows k
may_show begun k None shows is = absurd (cc is)
may_show begun k (Some x) shows is = by begun (can_show x k.version.length) (keeps_lines k.fields) refl refl is
  where
    by : (b c d : Bool) → can_show x k.version.length ≡ c → keeps_lines k.fields ≡ d → elim (not b && c && d) as (λ t. Option KeptReply) [ true ↦ Some x | false ↦ None ] ≡ Some shows → MayShow shows k
    by true c d can lines at = absurd (cc at)
    by false false d can lines at = absurd (cc at)
    by false true false can lines at = absurd (cc at)
    by false true true can lines at = let same : x ≡ shows = cc at in record { can = ap (λ (y : KeptReply). can_show y k.version.length) (sym same) ∙ can; lines = is_within (length (lines_of k.fields)) 18432 lines }

passed_room : (d : Decision) (p : Option Passed) (a : Option Asked) (may : Bool) (old new : Seat) → HasBegunPassed d p a may old new → HasRoom old → HasRoom new
passed_room d None a may old new same room = subst HasRoom (sym same) room
passed_room d (Some p) None may old new same room = subst HasRoom (sym same) room
passed_room d (Some p) (Some a) false old new same room = subst HasRoom (sym same) room
passed_room d (Some p) (Some a) true old new has room = subst (λ (text : List ℕ). length text ≤ 20480) (sym (ap (λ (x : Seat). x.client.reply.text) has.seat)) room

-- what is kept, of an instance that is there
record IsKeptFrom (p : Turn) (k : Kept) : Type 0 where
  short : k.version.length < 2 ^ 64
  name : k.name ≡ p.name.items

kept_room : (id : ObjectId) (answer : Answer) (k : Kept) (a : Option Asked) (shows : Option KeptReply) (old new : Seat) → k.version.length < 2 ^ 64 → length k.name ≤ 64 → shown_of old answer k.version k.fields ≡ shows → HasBegunShown id answer k a shows old new → HasRoom old → HasRoom new
kept_room id answer k None shows old new short named is same room = subst HasRoom (sym same) room
kept_room id answer k (Some a) None old new short named is same room = subst HasRoom (sym same) room
kept_room id answer k (Some a) (Some shows) old new short named is has room =
    let may : MayShow shows k = may_show _ k (shown_to _ answer k.version) shows is in
    subst (λ (text : List ℕ). length text ≤ 20480) (sym (ap (λ (x : Seat). x.client.reply.text) has.seat))
    (head_len shows k.version.length k.fields (age_shown id k.times k.now old.brought) k.name a.keeps_open may.can short may.lines (age_fits id k.times k.now old.brought) named)

kept_from : (id : ObjectId) (p : Turn) (k : Kept) → BodiesAreShort p.cache.instances → kept_of id p.name.items p.now p.cache ≡ Some k → IsKeptFrom p k
kept_from id p k short is = by (is_there id p.cache.instances) (in_slot id.slot p.cache.instances) refl is
  where
    by : (b : Bool) (o : Option Instance) → in_slot id.slot p.cache.instances ≡ o → elim b as (λ t. Option Kept) [ true ↦ kept_in p.name.items p.now o | false ↦ None ] ≡ Some k → IsKeptFrom p k
    by false o here at = absurd (cc at)
    by true None here at = absurd (cc at)
    by true (Some x) here at =
        let same : (let t : Kept = record { version = x.version; fields = x.fields; times = x.times; name = p.name.items; now = p.now } in t) ≡ k = cc at in
        record {
          short = subst (λ (y : Kept). y.version.length < 2 ^ 64) same (found_short (is_in_slot id.slot) p.cache.instances x here short);
          name = sym (ap (λ (y : Kept). y.name) same);
        }

-- ---- all of a turn

-- of all but clients
record AllElse (p w : Turn) : Type 0 where
  name : w.name.items ≡ p.name.items
  short : BodiesAreShort p.cache.instances → BodiesAreShort w.cache.instances
  flow : AreAlike p.flow w.flow

record GoesOn (p q : Turn) : Type 0 where
  texts : length p.name.items ≤ 64 → BodiesAreShort p.cache.instances → AllAt HasRoom p.seats.items → AllAt HasRoom q.seats.items
  rest : AllElse p q

same_else : (p : Turn) → AllElse p p
same_else p = record { name = refl; short = λ short. short; flow = λ m. alike_self (entry_of m p.flow) }

as_it_was : (p q : Turn) → q ≡ p → GoesOn p q
as_it_was p q same = subst (λ (t : Turn). GoesOn p t) (sym same) (record { texts = λ named short room. room; rest = same_else p })

module _ (i : ℕ) (p q : Turn) where
  changes : (P : Seat → Seat → Type 0) (w : Turn) (seat : Seat) → slice_get p.seats.items i ≡ Some seat → ((new : Seat) → P seat new → length p.name.items ≤ 64 → BodiesAreShort p.cache.instances → HasRoom seat → HasRoom new) → AllElse p w → BeginsAt P i w p q → GoesOn p q
  changes P w seat here each else_ begins =
      let at : (new : Seat) × P seat new × (q.seats.items ≡ slice_set p.seats.items i new) = subst (λ (o : Option Seat). IsChangedIn P o i p.seats.items q.seats.items) here begins.seat in
      record {
        texts = λ named short room. subst (λ (seats : List Seat). AllAt HasRoom seats) (sym at.2) (set_all HasRoom i p.seats.items seat at.0 here (each at.0 at.1 named short (room i seat here)) room);
        rest = record {
          name = ap (λ (t : Turn). t.name.items) begins.rest ∙ else_.name;
          short = λ short. subst (λ (m : Memory). BodiesAreShort m.instances) (sym (ap (λ (t : Turn). t.cache) begins.rest)) (else_.short short);
          flow = subst (λ (f : Exchanges). AreAlike p.flow f) (sym (ap (λ (t : Turn). t.flow) begins.rest)) else_.flow;
        };
      }

  passes : (d : Decision) (seat : Seat) → slice_get p.seats.items i ≡ Some seat → BeginsPassed i d p q → GoesOn p q
  passes d seat here begins = changes (IsPassBegun d) p seat here (λ new is named short room. passed_room d (passed_in seat.brought) (asked_in seat.front) (may_answer seat.client) seat new is room) (same_else p) begins

  left_else : (id : ObjectId) (answer : Answer) (client : ℕ) (b : Bool) → AllElse p (after_shown b id answer client p)
  left_else id answer client false = same_else p
  left_else id answer client true = record { name = refl; short = by (answer.from == answer.to); flow = outrun_alike client p.flow }
    where
      by : (b : Bool) → BodiesAreShort p.cache.instances → BodiesAreShort (elim b as (λ t. Memory) [ true ↦ with_left id p.cache | false ↦ p.cache ]).instances
      by true short = short_with_left id p.cache short
      by false short = short

  from_row : (id : ObjectId) (answer : Answer) (k : Option Kept) (seat : Seat) (o : Option Seat) → slice_get p.seats.items i ≡ Some seat → kept_of id p.name.items p.now p.cache ≡ k → o ≡ Some seat → BeginsRow i id answer k o p q → GoesOn p q
  from_row id answer None seat o here kept is same = as_it_was p q same
  from_row id answer (Some k) seat None here kept is same = as_it_was p q same
  from_row id answer (Some k) seat (Some other) here kept is begins =
      let its : BeginsAt (IsKeptBegun id answer k) i (after_shown (may_be_shown answer k.version k.fields seat) id answer seat.client.id p) p q =
      subst (λ (x : Seat). BeginsAt (IsKeptBegun id answer k) i (after_shown (may_be_shown answer k.version k.fields x) id answer x.client.id p) p q) (some_is other seat is) begins in
      changes (IsKeptBegun id answer k) (after_shown (may_be_shown answer k.version k.fields seat) id answer seat.client.id p) seat here
      (λ new so named short room.
      let from : IsKeptFrom p k = kept_from id p k short kept in
      kept_room id answer k (asked_in seat.front) (shown_of seat answer k.version k.fields) seat new from.short (subst (λ (name : List ℕ). length name ≤ 64) (sym from.name) named) refl so room)
      (left_else id answer seat.client.id (may_be_shown answer k.version k.fields seat)) its

  from_source : (answer : Answer) (seat : Seat) (o : Option ObjectId) → slice_get p.seats.items i ≡ Some seat → BeginsFrom i answer o p q → GoesOn p q
  from_source answer seat None here same = as_it_was p q same
  from_source answer seat (Some id) here begins = by (may_begin id answer p.cache) begins
    where
      by : (b : Bool) → BeginsKept i id answer b p q → GoesOn p q
      by false same = as_it_was p q same
      by true row = from_row id answer (kept_of id p.name.items p.now p.cache) seat (slice_get p.seats.items i) here refl here row

  decided : (answer : Answer) (seat : Seat) → slice_get p.seats.items i ≡ Some seat → (d : Decision) → BeginsDecided i answer d p q → GoesOn p q
  decided answer seat here Pass begins = passes Pass seat here begins
  decided answer seat here Relay begins = passes Relay seat here begins
  decided answer seat here (Refuse status) begins = from_source answer seat answer.source here begins
  decided answer seat here (Hit from to) begins = from_source answer seat answer.source here begins
  decided answer seat here (PartOf from to) begins = from_source answer seat answer.source here begins
  decided answer seat here HeadOf begins = from_source answer seat answer.source here begins
  decided answer seat here Unchanged begins = from_source answer seat answer.source here begins
  decided answer seat here NoneOf begins = from_source answer seat answer.source here begins
  decided answer seat here Validate begins = from_source answer seat answer.source here begins
  decided answer seat here Fetch begins = from_source answer seat answer.source here begins

  answers : (answer : Answer) (seat : Seat) → slice_get p.seats.items i ≡ Some seat → (b : Bool) → BeginsAnswer i answer b p q → GoesOn p q
  answers answer seat here true same = as_it_was p q same
  answers answer seat here false begins = decided answer seat here answer.decision begins

  by_stage : (seat : Seat) → slice_get p.seats.items i ≡ Some seat → (b : Bool) (t : Stage) → BeginsBy i b t p q → GoesOn p q
  by_stage seat here true t same = as_it_was p q same
  by_stage seat here false Undecided same = as_it_was p q same
  by_stage seat here false Waiting same = as_it_was p q same
  by_stage seat here false Passing begins = passes Pass seat here begins
  by_stage seat here false (Answering answer) begins = answers answer seat here answer.has_begun begins

  one_goes : BeginsReply i p q → GoesOn p q
  one_goes begins = by (slice_get p.seats.items i) refl begins
    where
      by : (o : Option Seat) → slice_get p.seats.items i ≡ o → BeginsOf i o p q → GoesOn p q
      by None here same = as_it_was p q same
      by (Some seat) here it = by_stage seat here seat.is_closing seat.stage it

goes_then : (p m q : Turn) → GoesOn p m → GoesOn m q → GoesOn p q
goes_then p m q one two = record {
  texts = λ named short room. two.texts (subst (λ (name : List ℕ). length name ≤ 64) (sym one.rest.name) named) (one.rest.short short) (one.texts named short room);
  rest = record {
    name = two.rest.name ∙ one.rest.name;
    short = λ short. two.rest.short (one.rest.short short);
    flow = λ n. alike_then (entry_of n p.flow) (entry_of n m.flow) (entry_of n q.flow) (one.rest.flow n) (two.rest.flow n);
  };
}

all_go : (is : List ℕ) (p q : Turn) → BeginsReplies is p q → GoesOn p q
unfolding BeginsReplies
all_go [] p q same = as_it_was p q same
all_go (i ∷ is) p q (mid, one, others) = goes_then p mid q (one_goes i p mid one) (all_go is mid q others)

-- ---- so it stands behind them

pub given_begins : GivenAsRepliesBegin
given_begins old new begins given i seat at =
    let begun : Begun old.state.awake.items old.state new.state = all_begun old.state.awake.items old.state new.state begins.is in
    let was : Was old.state i seat = begun.was i seat at in
    ap (λ (b : Brought). is_refused_in b) was.like.brought ∙ given i was.old was.here

pub texts_begin : TextsAsRepliesBegin
texts_begin old new named short begins room = (all_go old.state.awake.items old.state new.state begins.is).texts named short room

same_conns : (s : State) → (begin_replies s).conns ≡ s.conns
unfolding begin_replies forsake swept
same_conns s = refl

pub counted_begins : CountedAsRepliesBegin
counted_begins old new s begins counted n k there m e has is =
    by (entry_of m old.state.flow) refl (subst (λ (o : Option Entry). IsAlike (entry_of m old.state.flow) o) is ((all_go old.state.awake.items old.state new.state begins.is).rest.flow m))
  where
    by : (o : Option Entry) → entry_of m old.state.flow ≡ o → IsAlike o (Some e) → IsCounted e.errand.body k
    by None here alike = absurd alike
    by (Some d) here alike = subst (λ body. IsCounted body k) alike (counted n k (ap (λ (ks : List Conn). find (is_conn n) ks) (sym (same_conns s)) ∙ there) m d has here)
