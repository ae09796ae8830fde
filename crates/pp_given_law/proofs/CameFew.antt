-- What came of a response can be counted: it is less than its connection brought, in reads of which each has two happenings of a short log.
use Rattle.std.proofs.Common.{◌≡◌, ◌⊎◌, inl, inr, refl, sym, subst, ap, ◌∙◌, ℕ, ◌+◌, ◌-◌, ◌*◌, ◌^◌, ◌≤◌, ◌<◌, ◌==◌, Bool, true, false, length, map, min, nat_le, List, [], ◌∷◌, ◌++◌, Some, None, le_refl, zero-le, length-append, arith}
use Rattle.std.proofs.Math.Nat.{min-le_left}
use Rattle.std.proofs.lemmas.Bool.Decides.{nat_tests}
use Rattle.std.proofs.lemmas.List.{append-nil}
use Rattle.std.specs.Prelude.{if◌then◌else◌}
use Rattle.pp_framing.proofs.BodiesExact.{read_from-first_place}
use Rattle.pp_framing.specs.Body.{Body, Done}
use Rattle.pp_framing.specs.Places.{datum, first_place, is_framing, read_from, step}
use Rattle.pp_framing.specs.Rules.{body_of}
use Rattle.pp_framing.specs.declared.body.BodyRule.{BodyRule}
use Rattle.pp_framing.specs.declared.place.Place.{Place}
use Rattle.pp_framing.specs.declared.place.Place.TheVariants.{Over, Wrong}
use Rattle.pp_law.specs.After.{after, changed, event, owing, paid}
use Rattle.pp_law.specs.Asking.{is_read, is_reading, permits_got, read_room}
use Rattle.pp_law.specs.Closing.{forsake, leave}
use Rattle.pp_law.specs.Connections.{conn, is_conn, on_client, on_conn, on_exchange, put_on}
use Rattle.pp_law.specs.Deciding.{add_exchange, begin_exchange}
use Rattle.pp_law.specs.Lists.{Bytes}
use Rattle.pp_law.specs.Permits.{IsPermitted, is_permitted, permits}
use Rattle.pp_law.specs.Phases.{behind, in_phase, next}
use Rattle.pp_law.specs.Replies.{regained}
use Rattle.pp_law.specs.State.{State, Answer, Conn, Owed, Free, ReadOf, WriteTo, Phase, Before, IsWoken, IsConfigured, IsRooted, IsListed, IsListening, IsStuck, Awaiting, Handling, Evicting, Keeping, Deciding, Following, Connecting, DecidingAgain, Term, start}
use Rattle.pp_law.specs.Turn.{marked_conn, touch}
use Rattle.pp_laws.proofs.Lists.{Changed, in_change, in_find, in_map, other, same}
use Rattle.pp_laws.proofs.Tests.{first_holds, second_holds}
use Rattle.pp_laws.specs.Runs.{IsIn, state_after}
use Rattle.pp_laws_bounds.proofs.Counts.{length-push}
use Rattle.pp_laws_pool.proofs.View.{Begins, Holds, Lesser, Places, View, Walk, facts_of, holds}
use Rattle.pp_laws_pool.proofs.WalkClients.{fill-keeps, give_up_asks-keeps}
use Rattle.pp_laws_pool.proofs.WalkSteps.{drop_unseen-keeps, placing-keeps}
use Rattle.pp_laws_sent.specs.Coming.{BodiesAreLess}
use Rattle.pp_laws_sides.proofs.Happenings.{unhampered}
use Rattle.pp_laws_sides.proofs.Open.{LogSteps, along_log}
use Rattle.pp_laws_turn.proofs.Lifts.{Stays, obeying}
use Rattle.pp_world.proofs.LogLemmas.{got-append}
use Rattle.pp_world.specs.Log.{Log}
use Rattle.pp_world.specs.Streams.{got as got_of, got_in}
use Rattle.pp_world.specs.declared.happening.Happening.{Happening}
use Rattle.pp_world.specs.declared.happening.Happening.TheVariants.{Got}
use Rattle.pp_given_law.specs.Came.{CameIsFew, ReadsCanBeCounted}

-- ---- data are no more than bytes

one_datum : (place : Place) (b : ℕ) → length (datum place b) ≤ 1
one_datum place b = by (is_framing place)
  where
    by : (t : Bool) → length (elim t as (λ c. List ℕ) [ true ↦ [] | false ↦ b ∷ [] ]) ≤ 1
    by true = zero-le
    by false = le_refl 1

within_from : (place : Place) (text : List ℕ) → length (read_from place text).payload ≤ length text
within_from Over text = zero-le
within_from Wrong text = zero-le
within_from place [] = zero-le
within_from place (b ∷ text) =
    let one : length (datum place b) ≤ 1 = one_datum place b in
    let rest : length (read_from (step place b) text).payload ≤ length text = within_from (step place b) text in
    omega (arith, one, rest, length-append (datum place b) (read_from (step place b) text).payload)

pub payload-within : (rule : BodyRule) (text : List ℕ) → length (body_of rule text).payload ≤ length text
payload-within rule text = subst (λ (body : Body). length body.payload ≤ length text) (read_from-first_place rule text) (within_from (first_place rule) text)

same_length : {xs ys : List ℕ} → Done xs ≡ Done ys → length ys ≤ length xs
same_length {xs} {ys} is = let same : xs ≡ ys = cc is in subst (λ (zs : List ℕ). length zs ≤ length xs) same (le_refl (length xs))

-- and what follows a body is no more
rest_within : (place : Place) (text rest : List ℕ) → (read_from place text).outcome ≡ Done rest → length rest ≤ length text
rest_within Over text rest is = same_length is
rest_within Wrong text rest is = absurd (cc is)
rest_within place [] rest is = absurd (cc is)
rest_within place (b ∷ text) rest is = let less : length rest ≤ length text = rest_within (step place b) text rest is in omega (arith, less)

pub rest-within : (rule : BodyRule) (text rest : List ℕ) → (body_of rule text).outcome ≡ Done rest → length rest ≤ length text
rest-within rule text rest is = rest_within (first_place rule) text rest (ap (λ (body : Body). body.outcome) (read_from-first_place rule text) ∙ is)

-- ---- what came on a connection, happening by happening

-- nothing of an origin is read
abbrev ReadsNothing : Happening → Type 0
ReadsNothing (Got n bytes) = ⊥
ReadsNothing h = Unit {0}

abbrev came_in : Log → ℕ → Bytes
came_in log n = got_of n log

once : (n : ℕ) (h : Happening) → got_of n (h ∷ []) ≡ got_in n h ++ []
unfolding got_of
once n h = refl

one_more : (log : Log) (h : Happening) (n : ℕ) → came_in (log ++ h ∷ []) n ≡ came_in log n ++ got_in n h
one_more log h n = got-append n log (h ∷ []) ∙ ap (λ (bs : Bytes). came_in log n ++ bs) (once n h ∙ append-nil (got_in n h))

-- ---- in so many reads

abbrev due_of : Owed → ℕ
due_of Free = 0
due_of (ReadOf n) = 1
due_of (WriteTo n) = 1

due_few : (o : Owed) → due_of o ≤ 1
due_few Free = zero-le
due_few (ReadOf n) = le_refl 1
due_few (WriteTo n) = le_refl 1

due_one : (o : Owed) (n : ℕ) → is_reading o n ≡ true → due_of o ≡ 1
due_one Free n is = absurd (cc is)
due_one (ReadOf m) n is = refl
due_one (WriteTo m) n is = absurd (cc is)

record HasBrought (log : Log) (s : State) : Type 0 where
  reads : ℕ
  few : 2 * reads + due_of s.owed ≤ length log
  bytes : (n : ℕ) → length (came_in log n) ≤ 32768 * reads

none_brought : (terms : List Term) → HasBrought [] (start terms)
unfolding got_of
none_brought terms = record { reads = 0; few = zero-le; bytes = λ n. zero-le }

quiet : (n : ℕ) (h : Happening) → ReadsNothing h → got_in n h ≡ []
quiet n (Got m bytes) is = absurd is
quiet n h is = refl

quiet_brought : (front : Log) (h : Happening) (s : State) → ReadsNothing h → HasBrought front s → HasBrought (front ++ h ∷ []) (after s h)
quiet_brought front h s is was = record {
  reads = was.reads;
  few = let long : length (front ++ h ∷ []) ≡ length front + 1 = length-push front h in let due : due_of (after s h).owed ≤ 1 = due_few (after s h).owed in let old : 2 * was.reads + due_of s.owed ≤ length front = was.few in omega (arith, long, due, old);
  bytes = λ n. subst (λ (bs : Bytes). length bs ≤ 32768 * was.reads) (sym (one_more front h n ∙ ap (λ (bs : Bytes). came_in front n ++ bs) (quiet n h is) ∙ append-nil (came_in front n))) (was.bytes n);
}

permits_so : (s : State) (n : ℕ) (bytes : Bytes) → IsPermitted s (Got n bytes) → permits_got s n bytes ≡ true
unfolding is_permitted permits
permits_so s n bytes is = unhampered s.made_room_for (permits_got s n bytes) is

pub few_bytes : (most : ℕ) (bytes : Bytes) → is_read most bytes ≡ true → length bytes ≤ 32768
few_bytes most bytes is = by (min-le_left 32768 most) (second_holds (nat_le 1 (length bytes)) (nat_le (length bytes) (min 32768 most)) is)
  where
    by : min 32768 most ≤ 32768 → nat_le (length bytes) (min 32768 most) ≡ true → length bytes ≤ 32768
    by le some = grind (arith, nat_tests)

owed_then : (s : State) (n : ℕ) (bytes : Bytes) → (after s (Got n bytes)).owed ≡ Free
unfolding changed paid regained
owed_then s n bytes = refl

in_few : (n m : ℕ) (bytes : Bytes) → length (got_in n (Got m bytes)) ≤ length bytes
in_few n m bytes = by (m == n)
  where
    by : (b : Bool) → length (if b then bytes else []) ≤ length bytes
    by true = le_refl (length bytes)
    by false = zero-le

got_brought : (front : Log) (m : ℕ) (bytes : Bytes) (s : State) → permits_got s m bytes ≡ true → HasBrought front s → HasBrought (front ++ Got m bytes ∷ []) (after s (Got m bytes))
got_brought front m bytes s may was = record {
  reads = was.reads + 1;
  few =
      let long : length (front ++ Got m bytes ∷ []) ≡ length front + 1 = length-push front (Got m bytes) in
      let before : due_of s.owed ≡ 1 = due_one s.owed m (first_holds (is_reading s.owed m) (is_read (read_room s m) bytes) may) in
      let free : due_of (after s (Got m bytes)).owed ≡ 0 = ap due_of (owed_then s m bytes) in
      let old : 2 * was.reads + due_of s.owed ≤ length front = was.few in
      omega (arith, long, before, free, old);
  bytes = λ n.
      let some : length bytes ≤ 32768 = few_bytes (read_room s m) bytes (second_holds (is_reading s.owed m) (is_read (read_room s m) bytes) may) in
      let new : length (got_in n (Got m bytes)) ≤ length bytes = in_few n m bytes in
      let old : length (came_in front n) ≤ 32768 * was.reads = was.bytes n in
      let all : length (came_in (front ++ Got m bytes ∷ []) n) ≡ length (came_in front n ++ got_in n (Got m bytes)) = ap (λ (bs : Bytes). length bs) (one_more front (Got m bytes) n) in
      omega (arith, some, new, old, all, length-append (came_in front n) (got_in n (Got m bytes)));
}

brought : LogSteps HasBrought
brought terms front (Got m bytes) one was = got_brought front m bytes (state_after terms front) (permits_so (state_after terms front) m bytes one.permitted) was
brought terms front h one was = quiet_brought front h (state_after terms front) tt was

-- ---- some phases on

abbrev IsLess : ℕ → Conn → Type 0
IsLess m k = (a : Answer) → k.answer ≡ Some a → length a.raw < m

abbrev AreLess : ℕ → View → Type 0
AreLess m v = (k : Conn) → IsIn k v.conns → IsLess m k

less_still : (m : ℕ) (j k : Conn) → (j.answer ≡ k.answer) ⊎ (j.answer ≡ None) → IsLess m k → IsLess m j
less_still m j k (inl same_one) its a is = its a (sym same_one ∙ is)
less_still m j k (inr none) its a is = let both : None ≡ Some a = sym none ∙ is in absurd (cc both)

mapped : (m : ℕ) (f : Conn → Conn) (ks : List Conn) → ((k : Conn) → Lesser (f k) k) → ((k : Conn) → IsIn k ks → IsLess m k) → (k : Conn) → IsIn k (map f ks) → IsLess m k
mapped m f ks less h k i = let r = in_map f k ks i in subst (IsLess m) (sym r.is) (less_still m (f r.was) r.was (less r.was).answer (h r.was r.there))

less_walk : (m : ℕ) → Walk (AreLess m)
unfolding on_exchange
less_walk m = record {
  clients = λ f is v h. h;
  asks = λ f is v h. h;
  left = λ test v h. h;
  over = λ test v h. h;
  conns = λ f less v h. mapped m f v.conns less h;
  chunks = λ test v h. h;
  again = λ n s is h. h;
}

less_places : (m : ℕ) → Places (AreLess m)
unfolding put_on on_conn on_exchange
less_places m n c s h k i = by (in_change (is_conn c) (λ j. record j { line = j.line ++ n ∷ [] }) k s.conns i)
  where
    by : Changed (is_conn c) (λ j. record j { line = j.line ++ n ∷ [] }) s.conns k → IsLess m k
    by (same j isnt) = h k j
    by (other j there hit eq) = less_still m k j (inl (ap (λ (x : Conn). x.answer) eq)) (h j there)

less_begins : (m : ℕ) → Begins (AreLess m)
unfolding begin_exchange add_exchange forsake leave
less_begins m e s is h = h

module _ (m : ℕ) where
  abbrev P : State → Type 0
  P s = Holds (AreLess m) s

  behind-less : (phase : Phase) (s : State) → P s → P (behind phase s)
  behind-less Before s h = h
  behind-less IsWoken s h = h
  behind-less IsConfigured s h = h
  behind-less IsRooted s h = h
  behind-less IsListed s h = h
  behind-less IsListening s h = h
  behind-less IsStuck s h = h
  behind-less Awaiting s h = h
  behind-less Handling s h = holds (facts_of h)
  behind-less Evicting s h = give_up_asks-keeps (less_walk m) _ (holds (facts_of h))
  behind-less Keeping s h = holds (facts_of h)
  behind-less Deciding s h = holds (facts_of h)
  behind-less Following s h = fill-keeps (less_walk m) (less_begins m) _ (give_up_asks-keeps (less_walk m) _ (drop_unseen-keeps (less_walk m) _ (holds (facts_of h))))
  behind-less Connecting s h = placing-keeps (less_places m) (in_phase DecidingAgain s) (holds (facts_of h))
  behind-less DecidingAgain s h = h

  next-less : Stays P
  unfolding next
  next-less s done h = behind-less s.phase s h

-- ---- so it can be counted

pub came_is_few : BodiesAreLess → CameIsFew
came_is_few bodies terms s log obeys short k a i is =
    let all : HasBrought log (state_after terms log) = along_log HasBrought none_brought brought terms log obeys.lawful in
    let start_less : Holds (AreLess (32768 * all.reads)) (state_after terms log) = holds (λ j there b answer. below (length b.raw) (length (came_in log j.number)) (32768 * all.reads) (bodies terms log obeys.lawful j b there answer) (all.bytes j.number)) in
    let its : length a.raw < 32768 * all.reads = facts_of (obeying (P (32768 * all.reads)) (next-less (32768 * all.reads)) terms s log obeys start_less) k i a is in
    let few : 2 * all.reads + due_of (state_after terms log).owed ≤ length log = all.few in
    omega (arith, its, few, short)
  where
    below : (x y z : ℕ) → x < y → y ≤ z → x < z
    below x y z less le = omega (arith, less, le)

-- ---- where a read is owed

owed_few : (n : ℕ) (s : State) (k : Conn) (a : Answer) → conn (event (owing (ReadOf n) n s)) n ≡ Some k → k.answer ≡ Some a → (j : Conn) × IsIn j s.conns × (j.answer ≡ Some a)
unfolding event regained owing touch on_conn on_client
owed_few n s k a there is =
    let at = in_find (is_conn n) k (event (owing (ReadOf n) n s)).conns there in
    by (in_change (is_conn n) (marked_conn s.clock) k s.conns at.0)
  where
    by : Changed (is_conn n) (marked_conn s.clock) s.conns k → (j : Conn) × IsIn j s.conns × (j.answer ≡ Some a)
    by (same i isnt) = (k, i, is)
    by (other j i hit eq) = (j, i, sym (ap (λ (x : Conn). x.answer) eq) ∙ is)

pub reads_can_be_counted : CameIsFew → ReadsCanBeCounted
reads_can_be_counted came terms s log obeys short n bytes few = record {
  few = omega (arith, few);
  behind = λ k a there is.
      let was = owed_few n s k a there is in
      let le : length a.raw + 32768 ≤ 2 ^ 64 - 1 = came terms s log obeys short was.0 a was.1 was.2 in
      omega (arith, le, few);
}
