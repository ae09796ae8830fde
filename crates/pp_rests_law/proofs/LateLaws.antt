-- Few rows stand from the first that came in this turn on: of what one read brought, and of what is decided behind it.
use Rattle.std.proofs.Common.{◌≡◌, inl, inr, refl, sym, subst, ap, ap₂, ◌∙◌, ℕ, ◌+◌, ◌≤◌, Bool, true, false, ◌&&◌, ◌||◌, ◌==◌, cond, filter, filter_map, find, length, List, [], ◌∷◌, ◌++◌, map, Option, Some, None, option_map, le_refl, le_trans, length-append, arith}
use Rattle.std.proofs.lemmas.List.{append-nil}
use Rattle.std.proofs.lemmas.List.Sums.{length-filter as counts-as}
use Rattle.std.proofs.lemmas.Slice.Eq.{bytes_eq-Decides}
use Rattle.std.specs.List.{cons_option}
use Rattle.pp_law.proofs.Prefixes.{front_from}
use Rattle.pp_law.specs.After.{after, changed, paid}
use Rattle.pp_law.specs.Asking.{is_reading, is_writing}
use Rattle.pp_law.specs.Connections.{conn, exchange, is_conn}
use Rattle.pp_law.specs.Lawful.{Lawful}
use Rattle.pp_law.specs.Lists.{Bytes}
use Rattle.pp_conf.specs.Conf.{Settings}
use Rattle.pp_conf.specs.Words.{reading_of}
use Rattle.pp_law.specs.Opening.{configured, is_same_phase, opened_to, settings_in, stuck, with_settings}
use Rattle.pp_law.specs.OwnHeads.{key_of}
use Rattle.pp_law.specs.Permits.{IsPermitted, has_conn, is_owed, is_permitted, permits}
use Rattle.pp_law.specs.Phases.{come_to, deciding, is_awaiting, is_free, next}
use Rattle.pp_law.specs.Replies.{end_replies, regained}
use Rattle.pp_law.specs.Requests.{Front, key_in}
use Rattle.pp_law.specs.Responses.{got}
use Rattle.pp_law.specs.State.{State, Term, Client, Conn, Exchange, Free, Instance, IsListed, IsListening, IsRooted, Owed, Phase, ReadOf, WriteTo, Awaiting, Handling, Connecting, start}
use Rattle.pp_law.specs.Table.{is_row_of, row}
use Rattle.pp_laws.proofs.Lists.{in_find, in_front, one_of}
use Rattle.pp_laws.proofs.Sound.{exchange_number, instance_id}
use Rattle.pp_laws.proofs.Tests.{first_holds, number_same, same_number, second_holds}
use Rattle.pp_laws.specs.Numbers.{AreDistinct, AreRising}
use Rattle.pp_laws.specs.Runs.{IsIn, state_after}
use Rattle.pp_laws_bounds.proofs.Pigeons.{count-none, pigeons}
use Rattle.pp_laws_fields.proofs.View.{AreOwn}
use Rattle.pp_laws_pool.proofs.Along.{Steps, after_all-append, along}
use Rattle.pp_laws_pool.proofs.View.{Holds as OfLine, holds as of_line}
use Rattle.pp_laws_replies.proofs.Quiet.{quiet_same}
use Rattle.pp_laws_replies.proofs.QuietRows.{configured-quiet, opened_to-quiet}
use Rattle.pp_laws_replies.proofs.QuietTurns.{come_to-quiet, deciding-quiet}
use Rattle.pp_laws_room.proofs.Coming.{by_coming}
use Rattle.pp_laws_turn.proofs.Laws.{sound_turns}
use Rattle.pp_laws_turn.proofs.Lifts.{Stays, obeying}
use Rattle.pp_laws_turn.specs.SoundTurn.{IsSoundTurn}
use Rattle.pp_obeys.specs.Obeys.{Obeys}
use Rattle.pp_target.specs.Key.{Key, text_of}
use Rattle.pp_world.specs.Log.{Log}
use Rattle.pp_world.specs.declared.happening.Happening.{Happening}
use Rattle.pp_world.specs.declared.happening.Happening.TheVariants.{Woke, Waits, Clock, Opened, CanRead, CanWrite, Heard, HungUp, Said, Shut, Dialled, Undialled, Reached, Ended, Broke, Asked, Got, Dropped, NoneYet, Began, Did, Unread, Noted, Rooted, Listed, Listens, Configured, Printed, Stopped}
use Rattle.pp_rests_law.proofs.FrontSteps.{begun_op_fronts, dialled_fronts, dropped_fronts, ended_op_fronts, noted_fronts, shut_fronts, undialled_fronts, unread_fronts}
use Rattle.pp_rests_law.proofs.Fronts.{AreAll, all_are, all_of, quiet_fronts}
use Rattle.pp_rests_law.proofs.LateHappenings.{again, ask-keeps, begun_op-keeps, dialled-keeps, dropped-keeps, end_replies-keeps, ended_op-keeps, ending-keeps, event-keeps, gone-keeps, hang_up-keeps, hear-keeps, noted-keeps, opened-keeps, owing-keeps, paid-keeps, reached-keeps, said-keeps, shut-keeps, undialled-keeps, unread-keeps, woken-keeps}
use Rattle.pp_rests_law.proofs.LateLines.{IsOfLine, got_late}
use Rattle.pp_rests_law.proofs.LateTurns.{come_to-keeps, next-keeps, rest_with-keeps, tick-keeps}
use Rattle.pp_rests_law.proofs.LateView.{AreLate, Holds, IsAmid, IsDone, Keys, facts_of, holds, nothing, read, reading, since_in}
use Rattle.pp_rests_law.specs.Late.{FewRowsAreLate, HasFewLate, is_row, since_new}

-- ---- lists

made_few : {A B : Type 0} (f : A → Option B) (xs : List A) → length (filter_map f xs) ≤ length xs
made_few f [] = le_refl 0
made_few {A} {B} f (x ∷ xs) = by (f x) (made_few f xs)
  where
    by : (o : Option B) → length (filter_map f xs) ≤ length xs → length (cons_option o (filter_map f xs)) ≤ length (x ∷ xs)
    by None le = omega arith
    by (Some y) le = omega arith

in_made : {A B : Type 0} (f : A → Option B) (xs : List A) (x : A) (y : B) → IsIn x xs → f x ≡ Some y → IsIn y (filter_map f xs)
in_made f [] x y i is = absurd i
in_made {A} {B} f (z ∷ zs) x y i is = by (f z) refl i (λ j. in_made f zs x y j is)
  where
    by : (o : Option B) → f z ≡ o → IsIn x (z ∷ zs) → (IsIn x zs → IsIn y (filter_map f zs)) → IsIn y (cons_option o (filter_map f zs))
    by None at (inl e) rest = let both : None ≡ Some y = sym at ∙ ap f (sym e) ∙ is in absurd (cc both)
    by None at (inr j) rest = rest j
    by (Some w) at (inl e) rest = let both : Some w ≡ Some y = sym at ∙ ap f (sym e) ∙ is in let one : w ≡ y = cc both in inl (sym one)
    by (Some w) at (inr j) rest = inr (rest j)

in_back : {A : Type 0} (x : A) (xs ys : List A) → IsIn x ys → IsIn x (xs ++ ys)
in_back x [] ys i = i
in_back x (z ∷ zs) ys i = inr (in_back x zs ys i)

absent : {A : Type 0} (p : A → Bool) (xs : List A) (x : A) → IsIn x xs → p x ≡ true → find p xs ≡ None → ⊥
absent p [] x i is none = i
absent {A} p (y ∷ ys) x i is none = by (p y) refl i none (λ j rest. absent p ys x j is rest)
  where
    by : (b : Bool) → p y ≡ b → IsIn x (y ∷ ys) → cond b (Some y) (find p ys) ≡ None → (IsIn x ys → find p ys ≡ None → ⊥) → ⊥
    by true at j never rest = absurd (cc never)
    by false at (inl e) never rest = let both : true ≡ false = sym is ∙ ap p e ∙ at in absurd (cc both)
    by false at (inr j) never rest = rest j never

found_one : {A : Type 0} (num : A → ℕ) (n : ℕ) (xs : List A) (x : A) → AreRising (map num xs) → IsIn x xs → num x ≡ n → find (λ y. num y == n) xs ≡ Some x
found_one {A} num n xs x rise i is = by (find (λ y. num y == n) xs) refl
  where
    by : (o : Option A) → find (λ y. num y == n) xs ≡ o → o ≡ Some x
    by None none = absurd (absent (λ y. num y == n) xs x i (ap (λ (m : ℕ). m == n) is ∙ number_same n) none)
    by (Some y) some =
        let w : IsIn y xs × ((num y == n) ≡ true) = in_find (λ z. num z == n) y xs some in
        ap (λ (z : A). Some z) (one_of num xs y x rise w.0 i (same_number (num y) n w.1 ∙ sym is))

none_since : (xs : List Instance) (x : Instance) → ((y : Instance) → IsIn y xs → y.is_new ≡ false) → IsIn x (since_new xs) → ⊥
none_since [] x old i = i
none_since (y ∷ ys) x old i = by y.is_new (old y (inl refl)) i (none_since ys x (λ z j. old z (inr j)))
  where
    by : (b : Bool) → b ≡ false → IsIn x (elim b as (λ t. List Instance) [ true ↦ y ∷ ys | false ↦ since_new ys ]) → (IsIn x (since_new ys) → ⊥) → ⊥
    by true is j rest = absurd (cc is)
    by false is j rest = rest j

since_distinct : (xs : List Instance) → AreDistinct (map instance_id xs) → AreDistinct (map instance_id (since_new xs))
since_distinct [] differ = differ
since_distinct (y ∷ ys) differ = by y.is_new (since_distinct ys differ.1)
  where
    by : (b : Bool) → AreDistinct (map instance_id (since_new ys)) → AreDistinct (map instance_id (elim b as (λ t. List Instance) [ true ↦ y ∷ ys | false ↦ since_new ys ]))
    by true rest = differ
    by false rest = rest

-- ---- nothing is new; or what was read has come, and all that came late, and each request, has one of these keys

abbrev Names : List Bytes → Front → Type 0
Names ks front = (key : Key) → key_in front ≡ Some key → IsIn (text_of key) ks

data IsFew (s : State) : Type 0 where
  none : Holds nothing s → IsFew s
  some : (ks : List Bytes) → length ks ≤ 264 → Holds (read ks) s → AreAll (Names ks) s → IsFew s

-- ---- one read

module _ (s : State) (n : ℕ) (sound : IsSoundTurn s) where
  abbrev keys_in : Option Conn → List Bytes
  keys_in o = elim o [ None ↦ [] | Some k ↦ filter_map (λ m. option_map key_of (exchange s m)) k.line ]

  line_keys : List Bytes
  line_keys = keys_in (conn s n)

  lined : OfLine (IsOfLine (keys_in (conn s n)) n) s
  lined = of_line (λ k ik is e ie i. subst (λ (o : Option Conn). IsIn (key_of e) (keys_in o)) (sym (found_one (λ (x : Conn). x.number) n s.conns k sound.numbers.conns_rise ik is))
      (in_made (λ m. option_map key_of (exchange s m)) k.line e.number (key_of e) i (ap (λ (o : Option Exchange). option_map key_of o) (found_one exchange_number e.number s.exchanges e sound.numbers.exchanges_rise ie refl))))

  line_few : length (keys_in (conn s n)) ≤ 8
  line_few = by (conn s n) refl
    where
      by : (o : Option Conn) → conn s n ≡ o → length (keys_in o) ≤ 8
      by None is = omega arith
      by (Some k) is = le_trans (made_few (λ m. option_map key_of (exchange s m)) k.line) (sound.bounded.lines k (in_find (is_conn n) k s.conns is).0)

abbrev client_keys : List Client → List Bytes
client_keys cs = filter_map (λ c. option_map text_of (key_in c.front)) cs

reading_busy : (owed : Owed) (n : ℕ) → is_reading owed n ≡ true → is_free owed ≡ false
reading_busy Free n is = absurd (cc is)
reading_busy (ReadOf m) n is = refl
reading_busy (WriteTo m) n is = absurd (cc is)

paid_free : (u : State) → is_free (paid u).owed ≡ true
unfolding paid regained
paid_free u = refl

got_few : (s : State) (n more : ℕ) (bytes : Bytes) → is_reading s.owed n ≡ true → IsSoundTurn s → length (paid (end_replies (got more n bytes s))).clients ≤ 256 → Holds nothing s → IsFew (paid (end_replies (got more n bytes s)))
got_few s n more bytes reads sound few h = some (ks ++ client_keys t.clients) short (holds (record {
  own = (facts_of then).own;
  late = λ x i row. in_front x.key ks (client_keys t.clients) ((facts_of then).late x i row);
  amid = (facts_of then).amid;
  done = paid_free (end_replies (got more n bytes s));
})) (all_are (λ c i key is. in_back (text_of key) ks (client_keys t.clients) (in_made (λ d. option_map text_of (key_in d.front)) t.clients c (text_of key) i (ap (λ (o : Option Key). option_map text_of o) is))))
  where
    t : State
    t = paid (end_replies (got more n bytes s))

    ks : List Bytes
    ks = keys_in s n sound (conn s n)

    at : s.phase ≡ Handling
    at = sound.owes (reading_busy s.owed n reads)

    start : Holds (reading ks) s
    start = holds (record { own = (facts_of h).own; late = λ x i row. absurd (none_since s.instances x (facts_of h).late i); amid = ap (λ (p : Phase). is_same_phase Awaiting p) at; done = tt })

    then : Holds (reading ks) t
    then = paid-keeps _ (end_replies-keeps _ (got_late ks more n bytes s start (lined s n sound)))

    short : length (ks ++ client_keys t.clients) ≤ 264
    short =
        let line : length ks ≤ 8 = line_few s n sound in
        let named : length (client_keys t.clients) ≤ 256 = le_trans (made_few (λ (c : Client). option_map text_of (key_in c.front)) t.clients) few in
        subst (λ (m : ℕ). m ≤ 264) (sym (length-append ks (client_keys t.clients))) (both (length ks) (length (client_keys t.clients)) line named)
      where
        both : (a b : ℕ) → a ≤ 8 → b ≤ 256 → a + b ≤ 264
        both a b one two = omega arith

-- ---- what may not come behind it

hampered : (made : Option ℕ) (b : Bool) → (elim made as (λ c. Bool) [ Some who ↦ false | None ↦ b ]) ≡ true → b ≡ true
hampered None b is = is
hampered (Some who) b is = absurd (cc is)

module _ {A : Type 0} (ks : List Bytes) (s : State) (h : Holds (read ks) s) where
  awaiting : is_awaiting s ≡ true → A
  awaiting is = let both : true ≡ false = sym is ∙ (facts_of h).amid in absurd (cc both)

  no_read : (n : ℕ) → is_reading s.owed n ≡ true → A
  no_read n is = let both : true ≡ false = sym (facts_of h).done ∙ reading_busy s.owed n is in absurd (cc both)

  no_write : (n : ℕ) → is_writing s.owed n ≡ true → A
  no_write n = by s.owed (facts_of h).done
    where
      by : (owed : Owed) → is_free owed ≡ true → is_writing owed n ≡ true → A
      by Free free is = absurd (cc is)
      by (ReadOf m) free is = absurd (cc free)
      by (WriteTo m) free is = absurd (cc free)

  no_owed : (n : ℕ) → (is_reading s.owed n || is_writing s.owed n) ≡ true → A
  no_owed n is = by (is_reading s.owed n) refl is
    where
      by : (b : Bool) → is_reading s.owed n ≡ b → (b || is_writing s.owed n) ≡ true → A
      by true reads any = no_read n reads
      by false reads any = no_write n any

  no_either : (n : ℕ) → (is_awaiting s || (is_reading s.owed n || is_writing s.owed n)) ≡ true → A
  no_either n is = by (is_awaiting s) refl is
    where
      by : (b : Bool) → is_awaiting s ≡ b → (b || (is_reading s.owed n || is_writing s.owed n)) ≡ true → A
      by true at any = awaiting at
      by false at any = no_owed n any

first_of : (a b c : Bool) → (a && b && c) ≡ true → a ≡ true
first_of true b c is = refl
first_of false true c is = absurd (cc is)
first_of false false c is = absurd (cc is)

-- ---- the opening

also : {late : Keys} (s t : State) → t.instances ≡ s.instances → t.next_instance ≡ s.next_instance → t.owed ≡ s.owed → is_same_phase Awaiting t.phase ≡ false → Holds late s → Holds late t
also {late} s t rows next owed phase h = holds (record {
  own = subst (λ (xs : List Instance). AreOwn xs t.next_instance) (sym rows) (subst (λ (n : ℕ). AreOwn s.instances n) (sym next) (facts_of h).own);
  late = subst (λ (xs : List Instance). AreLate late.keys xs) (sym rows) (facts_of h).late;
  amid = by_amid late.is_amid;
  done = subst (λ (o : Owed). IsDone late.is_done o) (sym owed) (facts_of h).done;
})
  where
    by_amid : (b : Bool) → IsAmid b t.phase
    by_amid false = tt
    by_amid true = phase

opened_late : {late : Keys} (phase : Phase) (ok : Bool) (s : State) → is_same_phase Awaiting phase ≡ false → Holds late s → Holds late (opened_to phase ok s)
unfolding opened_to stuck
opened_late phase true s isnt h = also s _ refl refl refl isnt h
opened_late phase false s isnt h = also s _ refl refl refl refl h

configured_late : {late : Keys} (text : Option Bytes) (s : State) → Holds late s → Holds late (configured text s)
unfolding configured stuck with_settings
configured_late {late} None s h = also s _ refl refl refl refl h
configured_late {late} (Some text) s h = by (settings_in (reading_of s.term.words (Some text)))
  where
    by : (o : Option Settings) → Holds late (with_settings o s)
    by None = also s _ refl refl refl refl h
    by (Some c) = also s _ refl refl refl refl h

-- ---- happening by happening

module _ (ks : List Bytes) (few : length ks ≤ 264) where
  come_to_fronts : (s : State) → AreAll (Names ks) s → AreAll (Names ks) (come_to Connecting s)
  come_to_fronts s named = quiet_fronts (Names ks) s _ (come_to-quiet Connecting s (quiet_same s)) named

  decided_keys : (s : State) → AreAll (Names ks) s → (c : Client) → IsIn c (deciding s).clients → (key : Key) → key_in c.front ≡ Some key → IsIn (text_of key) ks
  decided_keys s named c i = all_of (quiet_fronts (Names ks) s (deciding s) (deciding-quiet s (quiet_same s)) named) c i

  behind_read : (s : State) (happening : Happening) → IsPermitted s happening → Holds (read ks) s → AreAll (Names ks) s → IsFew (changed s happening)
  unfolding changed is_permitted permits
  behind_read s (Woke image) is h named = none (woken-keeps image s)
  behind_read s (Waits w) is h named = none (rest_with-keeps w _ (ending-keeps s h))
  behind_read s (Clock seconds) is h named = awaiting ks s h (hampered s.made_room_for _ is)
  behind_read s (Opened n) is h named = awaiting ks s h (first_holds (is_awaiting s) _ (hampered s.made_room_for _ is))
  behind_read s (CanRead n) is h named = awaiting ks s h (hampered s.made_room_for _ is)
  behind_read s (CanWrite n) is h named = awaiting ks s h (hampered s.made_room_for _ is)
  behind_read s (Heard c bytes) is h named = no_read ks s h c (first_of (is_reading s.owed c) _ _ (hampered s.made_room_for _ is))
  behind_read s (HungUp c) is h named = no_owed ks s h c (first_holds (is_owed s c) _ (hampered s.made_room_for _ is))
  behind_read s (Said c offered bytes) is h named = no_write ks s h c (first_holds (is_writing s.owed c) _ (hampered s.made_room_for _ is))
  behind_read s (Shut c) is h named = some ks few (shut-keeps c _ (come_to-keeps Connecting s h)) (shut_fronts (Names ks) c _ (come_to_fronts s named))
  behind_read s (Dialled n host port) is h named = some ks few (dialled-keeps n host port _ (come_to-keeps Connecting s h)) (dialled_fronts (Names ks) n host port _ (come_to_fronts s named))
  behind_read s (Undialled host port) is h named = some ks few (undialled-keeps _ (come_to-keeps Connecting s h)) (undialled_fronts (Names ks) _ (come_to_fronts s named))
  behind_read s (Reached k) is h named = awaiting ks s h (first_holds (is_awaiting s) _ (hampered s.made_room_for _ is))
  behind_read s (Ended k) is h named = no_read ks s h k (first_holds (is_reading s.owed k) _ (hampered s.made_room_for _ is))
  behind_read s (Broke k) is h named = no_either ks s h k (second_holds (has_conn s k) _ (hampered s.made_room_for _ is))
  behind_read s (Asked k bytes) is h named = no_write ks s h k (first_holds (is_writing s.owed k) _ (hampered s.made_room_for _ is))
  behind_read s (Got k bytes) is h named = no_read ks s h k (first_holds (is_reading s.owed k) _ (hampered s.made_room_for _ is))
  behind_read s (Dropped k) is h named = some ks few (dropped-keeps k _ (come_to-keeps Connecting s h)) (dropped_fronts (Names ks) k _ (come_to_fronts s named))
  behind_read s (NoneYet n) is h named = no_read ks s h n (hampered s.made_room_for _ is)
  behind_read s (Began op) is h named = some ks few (begun_op-keeps op s h) (begun_op_fronts (Names ks) op s named)
  behind_read s (Did op ok) is h named = some ks few (ended_op-keeps op ok s h) (ended_op_fronts (Names ks) op ok s named)
  behind_read s (Unread name) is h named = some ks few (unread-keeps name s h) (unread_fronts (Names ks) name s named)
  behind_read s (Noted remark) is h named = some ks few (noted-keeps remark s (decided_keys s named) h) (noted_fronts (Names ks) remark s named)
  behind_read s (Rooted folder) is h named = some ks few (opened_late IsRooted true s refl h) (quiet_fronts (Names ks) s _ (opened_to-quiet IsRooted true s (quiet_same s)) named)
  behind_read s (Listed ok) is h named = some ks few (opened_late IsListed ok s refl h) (quiet_fronts (Names ks) s _ (opened_to-quiet IsListed ok s (quiet_same s)) named)
  behind_read s (Listens port ok) is h named = some ks few (opened_late IsListening ok s refl h) (quiet_fronts (Names ks) s _ (opened_to-quiet IsListening ok s (quiet_same s)) named)
  behind_read s (Configured file text) is h named = some ks few (configured_late text s h) (quiet_fronts (Names ks) s _ (configured-quiet text s (quiet_same s)) named)
  behind_read s (Printed text) is h named = some ks few h named
  behind_read s Stopped is h named = awaiting ks s h (hampered s.made_room_for _ is)

before_read : (s : State) (happening : Happening) → IsPermitted s happening → IsSoundTurn s → length (changed s happening).clients ≤ 256 → Holds nothing s → IsFew (changed s happening)
unfolding changed is_permitted permits
before_read s (Woke image) is sound few h = none (woken-keeps image s)
before_read s (Waits w) is sound few h = none (rest_with-keeps w _ (ending-keeps s h))
before_read s (Clock seconds) is sound few h = none (event-keeps _ (tick-keeps seconds s h))
before_read s (Opened n) is sound few h = none (event-keeps _ (opened-keeps n s h))
before_read s (CanRead n) is sound few h = none (event-keeps _ (owing-keeps (ReadOf n) n s h))
before_read s (CanWrite n) is sound few h = none (event-keeps _ (owing-keeps (WriteTo n) n s h))
before_read s (Heard c bytes) is sound few h = none (paid-keeps _ (hear-keeps c bytes s h))
before_read s (HungUp c) is sound few h = none (paid-keeps _ (hang_up-keeps c s h))
before_read s (Said c offered bytes) is sound few h = none (paid-keeps _ (said-keeps c (length bytes) s h))
before_read s (Shut c) is sound few h = none (shut-keeps c _ (come_to-keeps Connecting s h))
before_read s (Dialled n host port) is sound few h = none (dialled-keeps n host port _ (come_to-keeps Connecting s h))
before_read s (Undialled host port) is sound few h = none (undialled-keeps _ (come_to-keeps Connecting s h))
before_read s (Reached k) is sound few h = none (event-keeps _ (reached-keeps k s h))
before_read s (Ended k) is sound few h = none (paid-keeps _ (gone-keeps true k s h))
before_read s (Broke k) is sound few h = none (paid-keeps _ (gone-keeps false k _ (event-keeps s h)))
before_read s (Asked k bytes) is sound few h = none (paid-keeps _ (ask-keeps k (length bytes) s h))
before_read s (Got k bytes) is sound few h = got_few s k (length bytes) bytes (first_holds (is_reading s.owed k) _ (hampered s.made_room_for _ is)) sound few h
before_read s (Dropped k) is sound few h = none (dropped-keeps k _ (come_to-keeps Connecting s h))
before_read s (NoneYet n) is sound few h = none (paid-keeps s h)
before_read s (Began op) is sound few h = none (begun_op-keeps op s h)
before_read s (Did op ok) is sound few h = none (ended_op-keeps op ok s h)
before_read s (Unread name) is sound few h = none (unread-keeps name s h)
before_read s (Noted remark) is sound few h = none (noted-keeps remark s (λ c i key at. tt) h)
before_read s (Rooted folder) is sound few h = none (opened_late IsRooted true s refl h)
before_read s (Listed ok) is sound few h = none (opened_late IsListed ok s refl h)
before_read s (Listens port ok) is sound few h = none (opened_late IsListening ok s refl h)
before_read s (Configured file text) is sound few h = none (configured_late text s h)
before_read s (Printed text) is sound few h = none h
before_read s Stopped is sound few h = none (event-keeps _ (again s _ refl refl h))

-- ---- along a log, and some phases on

at_once : (terms : List Term) (log : Log) → Lawful terms log → Obeys terms (state_after terms log) log
at_once terms log lawful = record { lawful = lawful; goes = record { phases = 0; done = tt; there = refl } }

few_steps : Steps IsFew
few_steps terms front h next now = by now
  where
    s : State
    s = state_after terms front

    sound : IsSoundTurn s
    sound = sound_turns terms s front (at_once terms front (front_from (start terms) front (h ∷ []) next.lawful))

    then : IsSoundTurn (after s h)
    then = subst (λ (t : State). IsSoundTurn t) (after_all-append (start terms) front (h ∷ [])) (sound_turns terms (state_after terms (front ++ h ∷ [])) (front ++ h ∷ []) (at_once terms (front ++ h ∷ []) next.lawful))

    by : IsFew s → IsFew (after s h)
    by (none kept) = before_read s h next.permitted sound then.bounded.clients kept
    by (some ks few kept named) = behind_read ks few s h next.permitted kept named

few_start : (terms : List Term) → IsFew (start terms)
few_start terms = none (holds (record { own = record { differ = tt; given = λ x i. absurd i }; late = λ x i. absurd i; amid = tt; done = tt }))

few_next : Stays IsFew
few_next s done (none kept) = none (next-keeps s kept)
few_next s done (some ks few kept named) = some ks few (next-keeps s kept) (by_coming (AreAll (Names ks)) (λ p t all. quiet_fronts (Names ks) t _ (come_to-quiet p t (quiet_same t)) all) s done named)

-- ---- so there are few

no_more : (n m k : ℕ) → n ≡ m → n ≤ k → k ≤ 264 → m ≤ 264
no_more n m k same few most = omega arith

few_late : (s : State) → IsSoundTurn s → IsFew s → HasFewLate s
few_late s sound (none kept) = no_more (length (filter is_row (since_new s.instances))) _ 0 (counts-as is_row (since_new s.instances)) (count-none is_row (since_new s.instances) (λ x i row. none_since s.instances x (facts_of kept).late i)) (omega arith)
few_late s sound (some ks few kept named) =
    no_more (length (filter is_row (since_new s.instances))) _ (length ks) (counts-as is_row (since_new s.instances))
    (pigeons instance_id (λ (key : Bytes). option_map instance_id (row s key)) is_row (since_new s.instances) ks (since_distinct s.instances sound.numbers.instances_differ) each) few
  where
    each : (x : Instance) → IsIn x (since_new s.instances) → is_row x ≡ true → (key : Bytes) × IsIn key ks × (option_map instance_id (row s key) ≡ Some x.id)
    each x i stands = (x.key, (facts_of kept).late x i stands, by (row s x.key) refl)
      where
        there : IsIn x s.instances
        there = since_in s.instances x i

        its : is_row_of x.key x ≡ true
        its = ap₂ (λ (a b : Bool). a && b) stands ((bytes_eq-Decides x.key x.key).1 refl)

        by : (o : Option Instance) → row s x.key ≡ o → option_map instance_id o ≡ Some x.id
        by None is = absurd (absent (is_row_of x.key) s.instances x there its is)
        by (Some z) is =
            let w : IsIn z s.instances × (is_row_of x.key z ≡ true) = in_find (is_row_of x.key) z s.instances is in
            ap (λ (n : ℕ). Some n) (sound.rows x.key z x w.0 there w.1 its)

pub few_rows : FewRowsAreLate
few_rows terms s log obeys =
    few_late s (sound_turns terms s log obeys)
    (obeying IsFew few_next terms s log obeys (along IsFew few_start few_steps terms log [] (subst (λ (l : Log). Lawful terms l) (sym (append-nil log)) obeys.lawful)))
