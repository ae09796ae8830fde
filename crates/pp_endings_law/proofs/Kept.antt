-- What is told of the others stays told, where one client is closed or goes on to its next request.
use Rattle.std.proofs.Common.{◌≡◌, refl, sym, subst, ap, ◌∙◌, ℕ, zero, suc, Bool, true, false, not, ◌==◌, ◌&&◌, ◌||◌, cond, find, List, [], ◌∷◌, Some, Option, arith}
use Rattle.std.specs.List.{list_any}
use Rattle.std.specs.Prelude.{option_and_then, option_map, slice_get, slice_set}
use Rattle.pp_cache.specs.Memory.{Memory}
use Rattle.pp_cache_law.proofs.Alike.{instances_of}
use Rattle.pp_cache_law.proofs.Finds.{find_kept}
use Rattle.pp_cache_law.proofs.Numbers.{is_same, same_test, some_is, true_false}
use Rattle.pp_cache_law.specs.Reads.{IsFound}
use Rattle.pp_client.specs.Replies.{is_said}
use Rattle.pp_turns_law.specs.Sides.{ShowsSides}
use Rattle.pp_turns_law.proofs.Changed.{get_set}
use Rattle.pp_turns_law.proofs.Quitting.{follows_one, left_memory}
use Rattle.pp_turns_law.proofs.Refused.{left_stands}
use Rattle.pp_turns_law.proofs.Regained.{get_other, next_suc}
use Rattle.pp_turns_law.proofs.Sitting.{is_at, shown_at}
use Rattle.pp_turns_law.proofs.StandingOn.{there_by}
use Rattle.pp_turns_law.specs.Decides.{IsAtPlace}
use Rattle.pp_desk.specs.Closings.{Sides}
use Rattle.pp_flow_law.proofs.Entries.{none_some, same_as, same_number}
use Rattle.pp_law.specs.Connections.{is_client, on_client}
use Rattle.pp_law.specs.Lists.{Bytes, change, is_some_with, is_this}
use Rattle.pp_law.specs.Stages.{reply_of}
use Rattle.pp_law.specs.State.{State, Client, Instance as Known, Reply}
use Rattle.pp_law.specs.Table.{follows, instance, is_followed, is_instance, is_left_over}
use Rattle.pp_objects.specs.Instances.{is_there}
use Rattle.pp_seats.specs.declared.seat.Answer.{Answer}
use Rattle.pp_seats.specs.declared.seat.Seat.{Seat}
use Rattle.pp_seats_law.specs.Clients.{IsAt, IsNowhere}
use Rattle.pp_seats_law.specs.Seats.{ShowsSeat}
use Rattle.pp_state.specs.Ends.{source_of}
use Rattle.pp_states_law.specs.Lines.{AllGo}
use Rattle.pp_turns_law.specs.Turns.{IsFollowing}
use Rattle.pp_endings_law.proofs.Law.{Steps, WasAsk}
use Rattle.pp_endings_law.specs.Replies.{AllMayEnd, IsOver, MayLeave}

-- ---- the others among the clients

and_none : (b : Bool) → (b && false) ≡ false
and_none true = refl
and_none false = refl

or_true : (b : Bool) → (b || true) ≡ true
or_true true = refl
or_true false = refl

abbrev pub KeepsNumber : (Client → Client) → Type 0
KeepsNumber f = (c : Client) → (f c).number ≡ c.number

pub find_other : (n m : ℕ) (f : Client → Client) → KeepsNumber f → (m == n) ≡ false → (cs : List Client) → find (is_client m) (change (is_client n) f cs) ≡ find (is_client m) cs
find_other n m f keeps off [] = refl
find_other n m f keeps off (c ∷ cs) = by (is_client n c) refl (find_other n m f keeps off cs)
  where
    isnt : is_client n c ≡ true → (c.number == m) ≡ false
    isnt is = at (c.number == m) refl
      where
        at : (b : Bool) → (c.number == m) ≡ b → b ≡ false
        at false isno = refl
        at true same = absurd (true_false (sym (same_as m n (sym (same_number c.number m same) ∙ same_number c.number n is)) ∙ off))

    by : (b : Bool) → is_client n c ≡ b → find (is_client m) (change (is_client n) f cs) ≡ find (is_client m) cs
        → find (is_client m) ((elim b as (λ t. Client) [ true ↦ f c | false ↦ c ]) ∷ change (is_client n) f cs) ≡ find (is_client m) (c ∷ cs)
    by true is rest =
        ap (λ (b : Bool). cond b (Some (f c)) (find (is_client m) (change (is_client n) f cs))) (ap (λ (k : ℕ). k == m) (keeps c) ∙ isnt is)
        ∙ rest
        ∙ sym (ap (λ (b : Bool). cond b (Some c) (find (is_client m) cs)) (isnt is))
    by false isno rest = ap (λ (o : Option Client). cond (is_client m c) (Some c) o) rest

pub find_self : (n : ℕ) (f : Client → Client) → KeepsNumber f → (cs : List Client) → find (is_client n) (change (is_client n) f cs) ≡ option_map f (find (is_client n) cs)
find_self n f keeps [] = refl
find_self n f keeps (c ∷ cs) = by (is_client n c) refl (find_self n f keeps cs)
  where
    by : (b : Bool) → is_client n c ≡ b → find (is_client n) (change (is_client n) f cs) ≡ option_map f (find (is_client n) cs)
        → find (is_client n) ((elim b as (λ t. Client) [ true ↦ f c | false ↦ c ]) ∷ change (is_client n) f cs) ≡ option_map f (cond b (Some c) (find (is_client n) cs))
    by true is rest = ap (λ (b : Bool). cond b (Some (f c)) (find (is_client n) (change (is_client n) f cs))) (ap (λ (k : ℕ). k == n) (keeps c) ∙ is)
    by false isno rest = ap (λ (b : Bool). cond b (Some c) (find (is_client n) (change (is_client n) f cs))) isno ∙ rest

any_of : (p q : Client → Bool) (cs : List Client) (c : Client) → find p cs ≡ Some c → q c ≡ true → list_any q cs ≡ true
any_of p q [] c found is = absurd (none_some c found)
any_of p q (x ∷ cs) c found is = by (p x) found (λ there. any_of p q cs c there is)
  where
    by : (b : Bool) → cond b (Some x) (find p cs) ≡ Some c → (find p cs ≡ Some c → list_any q cs ≡ true) → (q x || list_any q cs) ≡ true
    by true there rest = ap (λ (b : Bool). b || list_any q cs) (ap q (some_is x c there) ∙ is)
    by false there rest = ap (λ (b : Bool). q x || b) (rest there) ∙ or_true (q x)

-- ---- and among the seats

nowhere_number : (n j : ℕ) (seats : List Seat) (other : Seat) → IsNowhere n seats → slice_get seats j ≡ Some other → (other.client.id == n) ≡ false
nowhere_number n j [] other none here = absurd (none_some other here)
nowhere_number n zero (seat ∷ seats) other none here = ap (λ (x : Seat). x.client.id == n) (sym (some_is seat other here)) ∙ none.0
nowhere_number n (suc j) (seat ∷ seats) other none here = nowhere_number n j seats other none.1 here

pub other_number : (n i j : ℕ) (seats : List Seat) (other : Seat) → IsAt n i seats → slice_get seats j ≡ Some other → (i == j) ≡ false → (other.client.id == n) ≡ false
other_number n i j [] other at here apart = absurd at
other_number n zero zero (seat ∷ seats) other at here apart = absurd (true_false (sym (same_test zero zero refl) ∙ apart))
other_number n zero (suc j) (seat ∷ seats) other at here apart = nowhere_number n j seats other at.1 here
other_number n (suc i) zero (seat ∷ seats) other at here apart = ap (λ (x : Seat). x.client.id == n) (sym (some_is seat other here)) ∙ at.0
other_number n (suc i) (suc j) (seat ∷ seats) other at here apart = other_number n i j seats other at.1 here (sym (next_suc i j) ∙ apart)

-- ---- the asks of the others go on

pub all_go : (n : ℕ) (f : Client → Client) (s t : State) → KeepsNumber f → Steps n f s t → AllGo s → AllGo t
all_go n f s t keeps steps go = record {
  going = λ m d there a c asks found. let was : WasAsk s n m d = steps.exchange m d there in go.going m was.before was.there a c (was.asker a asks).0 (before a c (was.asker a asks).1 found);
  coming = λ m d there a c asks found. let was : WasAsk s n m d = steps.exchange m d there in go.coming m was.before was.there a c (was.asker a asks).0 (before a c (was.asker a asks).1 found);
}
  where
    before : (a : ℕ) (c : Client) → (a == n) ≡ false → find (is_client a) t.clients ≡ Some c → find (is_client a) s.clients ≡ Some c
    before a c off found = sym (find_other n a f keeps off s.clients) ∙ sym (ap (λ (cs : List Client). find (is_client a) cs) steps.clients) ∙ found

-- ---- one seat is changed

pub record IsOne (i : ℕ) (seat y : Seat) (x z : Sides) : Type 0 where
  pub here : slice_get x.parts.seats i ≡ Some seat
  pub seats : z.parts.seats ≡ slice_set x.parts.seats i y
  pub number : y.client.id ≡ seat.client.id
  pub cache : z.parts.cache ≡ left_memory (source_of seat) x.parts.cache

changed_clients : (n : ℕ) (f : Client → Client) (s : State) → (on_client n f s).clients ≡ change (is_client n) f s.clients
unfolding on_client
changed_clients n f s = refl

-- what a client that goes on follows is not left over
stays_there : (n m k : ℕ) (f : Client → Client) (s t : State) (d : Client) (x : Known) → Steps n f s t → find (is_client m) t.clients ≡ Some d → follows k d ≡ true → instance s k ≡ Some x → instance t k ≡ Some x
stays_there n m k f s t d x steps found on there =
    ap (λ (xs : List Known). find (is_instance k) xs) steps.instances ∙ find_kept (is_instance k) (λ y. not (is_left_over u y)) s.instances (λ y is. ap not (not_left y is)) ∙ there
  where
    u : State
    u = on_client n f s

    followed : is_followed u k ≡ true
    followed =
        ap (λ (cs : List Client). list_any (follows k) cs) (changed_clients n f s)
        ∙ any_of (is_client m) (follows k) (change (is_client n) f s.clients) d (sym (ap (λ (cs : List Client). find (is_client m) cs) steps.clients) ∙ found) on

    not_left : (y : Known) → is_instance k y ≡ true → is_left_over u y ≡ false
    not_left y is = ap (λ (j : ℕ). y.is_retired && not (is_followed u j)) (is_same y.id k is) ∙ ap (λ (b : Bool). y.is_retired && not b) followed ∙ and_none y.is_retired

module _ (number : ℕ → ℕ) (name : Bytes) (i : ℕ) (seat y : Seat) (x z : Sides) (s t : State) (f : Client → Client) (keeps : KeepsNumber f) (before : ShowsSides number name x s) (now : ShowsSides number name z t) (one : IsOne i seat y x z)
    (steps : Steps seat.client.id f s t) where
  abbrev n : ℕ
  n = seat.client.id

  at : IsAt n i x.parts.seats
  at = is_at i x.parts.seats seat before.steps.order one.here

  pub other_here : (j : ℕ) → (i == j) ≡ false → slice_get z.parts.seats j ≡ slice_get x.parts.seats j
  other_here j apart = ap (λ (seats : List Seat). slice_get seats j) one.seats ∙ get_other i j x.parts.seats y apart

  -- who is another was there
  was_there : (j : ℕ) (other : Seat) (d : Client) → (i == j) ≡ false → IsAtPlace j z.parts t other d → IsAtPlace j x.parts s other d
  was_there j other d apart place =
      let here : slice_get x.parts.seats j ≡ Some other = sym (other_here j apart) ∙ place.here in
      record {
        here = here;
        there =
            sym (find_other n other.client.id f keeps (other_number n i j x.parts.seats other at here apart) s.clients)
            ∙ sym (ap (λ (cs : List Client). find (is_client other.client.id) cs) steps.clients) ∙ place.there;
      }

  follows_still : (j : ℕ) (other : Seat) (d : Client) → IsAtPlace j z.parts t other d → d.is_closing ≡ false → IsFollowing x.parts.cache other → IsFollowing z.parts.cache other
  follows_still j other d place going there a id answer own =
      let seen : ShowsSeat number name [] other d = shown_at number name [] z.parts.seats t.clients other.client.id j other d now.steps.shows.clients (is_at j z.parts.seats other now.steps.order place.here) place.here place.there in
      let was : is_there id x.parts.cache.instances ≡ true = there a id answer own in
      let found : IsFound number x.parts.cache s id = instances_of number x.parts.cache s before.steps.shows.table.table id was in
      let on : follows (number id.life) d ≡ true =
      ap (λ (b : Bool). not b && is_some_with (λ (r : Reply). is_this (number id.life) r.source) (reply_of d)) going
      ∙ follows_one number (number id.life) id other.client.reply other.stage d.stage (seen.going going).stage (ap (λ (o : Option Answer). option_and_then (λ (b : Answer). b.source) o) answer ∙ own)
      ∙ same_test (number id.life) (number id.life) refl in
      there_by number x.parts.cache z.parts.cache s t id found.known before.steps.shows.table.table now.steps.shows.table.table was
      (λ more is. (left_stands (source_of seat) x.parts.cache 0).there more (subst (λ (m : Memory). is_there more m.instances ≡ true) one.cache is))
      (stays_there n other.client.id (number id.life) f s t d found.known steps place.there on found.there)

  -- the one that is changed follows nothing, and says nothing, where it goes on
  abbrev pub IsFresh : Type 0
  IsFresh = (d : Client) → find (is_client n) t.clients ≡ Some d → d.is_closing ≡ false → IsFollowing z.parts.cache y × (is_said y.client.reply ≡ false)

  its_seat : (j : ℕ) (other : Seat) → (i == j) ≡ true → slice_get z.parts.seats j ≡ Some other → y ≡ other
  its_seat j other same here =
      some_is y other (sym (ap (λ (seats : List Seat). slice_get seats i) one.seats ∙ get_set i x.parts.seats seat y one.here) ∙ ap (λ (k : ℕ). slice_get z.parts.seats k) (is_same i j same) ∙ here)

  fresh_at : (j : ℕ) (other : Seat) (d : Client) → IsFresh → (i == j) ≡ true → IsAtPlace j z.parts t other d → d.is_closing ≡ false → IsFollowing z.parts.cache other × (is_said other.client.reply ≡ false)
  fresh_at j other d fresh same place going =
      let own : y ≡ other = its_seat j other same place.here in
      subst (λ (a : Seat). IsFollowing z.parts.cache a × (is_said a.client.reply ≡ false)) own
      (fresh d (ap (λ (m : ℕ). find (is_client m) t.clients) (sym one.number ∙ ap (λ (a : Seat). a.client.id) own) ∙ place.there) going)

  pub leaves_still : IsFresh → MayLeave x s → MayLeave z t
  leaves_still fresh may = record {
    follow = λ j other d place going. by j other d place going (i == j) refl;
    once = λ m. omega (arith, steps.once m, may.once m);
    rests = λ m d there none. let was : WasAsk s n m d = steps.exchange m d there in ap (λ (k : ℕ). k == 0) was.asked ∙ may.rests m was.before was.there (sym was.place ∙ none);
  }
    where
      by : (j : ℕ) (other : Seat) (d : Client) → IsAtPlace j z.parts t other d → d.is_closing ≡ false → (b : Bool) → (i == j) ≡ b → IsFollowing z.parts.cache other
      by j other d place going true same = (fresh_at j other d fresh same place going).0
      by j other d place going false apart = follows_still j other d place going (may.follow j other d (was_there j other d apart place) going)

  pub ends_still : IsFresh → AllMayEnd x s → AllMayEnd z t
  ends_still fresh all j other d place going said = by (i == j) refl
    where
      by : (b : Bool) → (i == j) ≡ b → IsOver other d
      by true same = absurd (true_false (sym said ∙ (fresh_at j other d fresh same place going).1))
      by false apart = all j other d (was_there j other d apart place) going said
