-- Behind the phase in which followers ask the next byte of each is there or comes.
use Rattle.std.proofs.Common.{◌≡◌, ◌⊎◌, refl, ℕ, ◌<◌, Bool, true, false, not, ◌&&◌, List, [], ◌∷◌, map, is_some, Option, Some, None, Result, Ok, Err, inl, inr, sym, subst, ap, ◌∙◌}
use Rattle.std.specs.List.{list_any}
use Rattle.pp_target.specs.Key.{Key}
use Rattle.pp_target.specs.declared.target.TargetFault.{TargetFault}
use Rattle.pp_law.specs.Connections.{client, each_client, front_of_line, is_client, is_for, is_trying, on_client}
use Rattle.pp_law.specs.Deciding.{begin_exchange}
use Rattle.pp_law.specs.Decisions.{fits}
use Rattle.pp_law.specs.Followers.{fill, fill_for, fill_next, fill_span, fill_with, filling_exchange, give_up_asks, is_useless_ask, is_wanted_by, need_of}
use Rattle.pp_law.specs.Lists.{is_some_with}
use Rattle.pp_law.specs.Phases.{behind, in_phase, next}
use Rattle.pp_law.specs.Requests.{Front, NoHeadYet, NoHead, IsRequest, Parsed, key_in}
use Rattle.pp_law.specs.Stages.{filled_of}
use Rattle.pp_law.specs.State.{State, AskTooLong, Client, Conn, Connecting, Exchange, Phase}
use Rattle.pp_law.specs.Table.{Next, brings, is_instance, is_provided, next_of}
use Rattle.pp_law.specs.Unseen.{drop_on, drop_unseen, is_unseen}
use Rattle.pp_laws.specs.Runs.{IsIn}
use Rattle.pp_laws.proofs.Cases.{each_of, when}
use Rattle.pp_laws.proofs.Clients.{give_up_asks-sound}
use Rattle.pp_laws.proofs.Closings.{IsOwnLine, close_conn-sound, own_line, own_line_shrunk}
use Rattle.pp_laws.proofs.Exchanges.{each_conn-sound, end_exchange-sound}
use Rattle.pp_laws.proofs.Lists.{in_filter, in_find}
use Rattle.pp_laws.proofs.Shrinks.{end_exchange-shrinks}
use Rattle.pp_laws.proofs.Sound.{FactsOf, Follows, Since, Sound, client_number, facts_of as sound_facts, source_in}
use Rattle.pp_laws.proofs.Steps.{in_phase-sound}
use Rattle.pp_laws.proofs.Tests.{below, same_number}
use Rattle.pp_laws_bounds.proofs.Counts.{in_map_of}
use Rattle.pp_laws_turn.proofs.Counts.{find_number}
use Rattle.pp_obeys.proofs.Frames.{Frame, frame, frame_of, stays}
use Rattle.pp_obeys.proofs.Obeying.{obeys_good}
use Rattle.pp_obeys.proofs.StaysAsks.{drop_unseen-stays, give_up_asks-stays}
use Rattle.pp_laws_ends.proofs.Ahead.{since}
use Rattle.pp_laws_served.specs.Filling.{AreWithin, FollowersAsk, IsAsked, IsKeyed, IsReady, unseen_dropped}
use Rattle.pp_laws_served.proofs.Fill.{Facts, begins, gives_up, in_any}
use Rattle.pp_laws_served.proofs.Holes.{AsksNext, asks_so, has_it}
use Rattle.pp_laws_served.proofs.Parts.{Parts, parts_of, row_id, stage_of}

-- ---- one more is gone through

more : (names done : List ℕ) (n : ℕ) (u : State) → Facts names done u → ((c : Client) (m : Next) → IsIn c u.clients → c.number ≡ n → next_of u c ≡ Some m → is_trying c.course ≡ true → m.source.is_retired ≡ false → is_provided u m ≡ true) → Facts names (n ∷ done) u
more names done n u h one = record {
  named = h.named;
  rise = h.rise;
  keyed = h.keyed;
  unbound = h.unbound;
  asked = h.asked;
  filled = λ c m i j is tries stands. by c m i j is tries stands;
}
  where
    by : (c : Client) (m : Next) → IsIn c u.clients → (c.number ≡ n) ⊎ IsIn c.number done → next_of u c ≡ Some m → is_trying c.course ≡ true → m.source.is_retired ≡ false → is_provided u m ≡ true
    by c m i (inl it) is tries stands = one c m i it is tries stands
    by c m i (inr j) is tries stands = h.filled c m i j is tries stands

module _ (names done : List ℕ) (x : Client) (u : State) (there : IsIn x u.clients) (h : Facts names done u) where
  it_is : (c : Client) → IsIn c u.clients → c.number ≡ x.number → c ≡ x
  it_is c i is =
      let both : Some c ≡ Some x = sym (find_number client_number x.number c u.clients h.rise i is) ∙ find_number client_number x.number x u.clients h.rise there refl in cc both

  with_ask : (n : Next) (k : IsKeyed x n) → next_of u x ≡ Some n → (a : AsksNext u n) → Facts names (x.number ∷ done) (fill_with (filling_exchange u x k.request.head k.key n a.span) x u)
  unfolding fill_with
  with_ask n k is a = by (fits (filling_exchange u x k.request.head k.key n a.span).text)
    where
      by : (b : Bool) → Facts names (x.number ∷ done) (elim b as (λ y. State) [ true ↦ begin_exchange (filling_exchange u x k.request.head k.key n a.span) u | false ↦ on_client x.number (λ y. record y { course = AskTooLong }) u ])
      by true = begins names done x u there h n is k a
      by false = gives_up names done x u h

  with_span : (n : Next) (k : IsKeyed x n) → next_of u x ≡ Some n → (a : AsksNext u n) → Facts names (x.number ∷ done) (fill_span x n a.span u)
  unfolding fill_span
  with_span n k is a =
      subst (Facts names (x.number ∷ done))
      (sym (ap (λ f. elim f as (λ y. State) [ NoHeadYet ↦ u | NoHead status ↦ u | IsRequest r ↦ elim r.key as (λ y. State) [ Ok key ↦ fill_with (filling_exchange u x r.head key n a.span) x u | Err fault ↦ u ] ]) k.front
      ∙ ap (λ r. elim r as (λ y. State) [ Ok key ↦ fill_with (filling_exchange u x k.request.head key n a.span) x u | Err fault ↦ u ]) k.is))
      (with_ask n k is a)

  with_next : (n : Next) → next_of u x ≡ Some n → Facts names (x.number ∷ done) (fill_next x n u)
  unfolding fill_next
  with_next n is = by (need_of u n) refl
    where
      k : IsKeyed x n
      k = h.keyed x n there is

      by : (o : Option (ℕ × ℕ)) → need_of u n ≡ o → Facts names (x.number ∷ done) (elim o as (λ y. State) [ None ↦ u | Some span ↦ fill_span x n span u ])
      by None none =
          more names done x.number u h (λ c m i it found tries stands.
          let one : Some m ≡ Some n = sym found ∙ ap (next_of u) (it_is c i it) ∙ is in
          let eq : n ≡ m = cc one in
          subst (λ (l : Next). is_provided u l ≡ true) eq (has_it u n (ap (λ (l : Next). l.source.is_retired) eq ∙ stands) k.some k.within none))
      by (Some span) some =
          let a = asks_so u n span k.some k.within some in
          let both : Some a.span ≡ Some span = sym a.is ∙ some in
          let eq : a.span ≡ span = cc both in
          subst (λ s. Facts names (x.number ∷ done) (fill_span x n s u)) eq (with_span n k is a)

  with_one : Facts names (x.number ∷ done) (fill_for x u)
  unfolding fill_for
  with_one = by (is_trying x.course) refl (next_of u x) refl
    where
      by : (b : Bool) → is_trying x.course ≡ b → (o : Option Next) → next_of u x ≡ o → Facts names (x.number ∷ done) (elim b as (λ y. State) [ false ↦ u | true ↦ elim o as (λ y. State) [ None ↦ u | Some n ↦ fill_next x n u ] ])
      by false off o is = more names done x.number u h (λ c m i it found tries stands. let both : true ≡ false = sym tries ∙ ap (λ (y : Client). is_trying y.course) (it_is c i it) ∙ off in absurd (cc both))
      by true on None none = more names done x.number u h (λ c m i it found tries stands. let both : Some m ≡ None = sym found ∙ ap (next_of u) (it_is c i it) ∙ none in absurd (cc both))
      by true on (Some n) some = with_next n some

-- ---- all of them

record Through (names done ns : List ℕ) (v : State) : Type 0 where
  gone : List ℕ
  facts : Facts names gone v
  covers : (m : ℕ) → IsIn m done ⊎ IsIn m ns → IsIn m gone

one_number : (names done : List ℕ) (n : ℕ) (u : State) → Facts names done u → Facts names (n ∷ done) (elim (client u n) as (λ y. State) [ None ↦ u | Some x ↦ fill_for x u ])
one_number names done n u h = by (client u n) refl
  where
    by : (o : Option Client) → client u n ≡ o → Facts names (n ∷ done) (elim o as (λ y. State) [ None ↦ u | Some x ↦ fill_for x u ])
    by None none = more names done n u h (λ c m i it found tries stands. let both : Some c ≡ None = sym (find_number client_number n c u.clients h.rise i it) ∙ none in absurd (cc both))
    by (Some x) some =
        let w = in_find (is_client n) x u.clients some in
        subst (λ k. Facts names (k ∷ done) (fill_for x u)) (same_number x.number n w.1) (with_one names done x u w.0 h)

all_through : (names ns done : List ℕ) (u : State) → Facts names done u → Through names done ns (each_client fill_for ns u)
unfolding each_client
all_through names [] done u h = record { gone = done; facts = h; covers = λ m i. by m i }
  where
    by : (m : ℕ) → IsIn m done ⊎ IsIn m [] → IsIn m done
    by m (inl j) = j
    by m (inr none) = absurd none
all_through names (n ∷ ns) done u h =
    let r = all_through names ns (n ∷ done) _ (one_number names done n u h) in
    record { gone = r.gone; facts = r.facts; covers = λ m i. r.covers m (moved m i) }
  where
    moved : (m : ℕ) → IsIn m done ⊎ IsIn m (n ∷ ns) → IsIn m (n ∷ done) ⊎ IsIn m ns
    moved m (inl j) = inl (inr j)
    moved m (inr (inl it)) = inl (inl it)
    moved m (inr (inr j)) = inr j

pub filled_all : (v : State) → v.is_stopped ≡ false → Facts (map (λ (c : Client). c.number) v.clients) [] v → IsReady (fill v)
unfolding fill
filled_all v runs h = by v.is_stopped runs
  where
    names : List ℕ
    names = map (λ (c : Client). c.number) v.clients

    r : Through (map (λ (c : Client). c.number) v.clients) [] (map (λ (c : Client). c.number) v.clients) (each_client fill_for (map (λ (c : Client). c.number) v.clients) v)
    r = all_through (map (λ (c : Client). c.number) v.clients) (map (λ (c : Client). c.number) v.clients) [] v h

    by : (b : Bool) → b ≡ false → IsReady (elim b as (λ y. State) [ true ↦ v | false ↦ each_client fill_for (map (λ (c : Client). c.number) v.clients) v ])
    by true off = absurd (cc off)
    by false off = record { filled = λ c n i is tries stands. r.facts.filled c n i (r.covers c.number (inr (r.facts.named c i))) is tries stands; asked = r.facts.asked }

-- ---- what is known before

drop_on-sound : {b : Since} (k : Conn) (s : State) → IsOwnLine k s → Sound b s → Sound b (drop_on k s)
unfolding drop_on
drop_on-sound k s own h =
    each_of (front_of_line s k) h
    (λ e. when (is_unseen s k e) (close_conn-sound false k _ (own_line_shrunk k s _ (end_exchange-shrinks e.number s) own) (end_exchange-sound e.number s h)) h)

drop_unseen-sound : {b : Since} (s : State) → Sound b s → Sound b (drop_unseen s)
unfolding drop_unseen
drop_unseen-sound s h = each_conn-sound drop_on (λ k t there ht. drop_on-sound k t (own_line k t there ht) ht) _ s h

front_key : (f : Front) (key : Key) → key_in f ≡ Some key → (q : Parsed) × (f ≡ IsRequest q) × (q.key ≡ Ok key)
front_key NoHeadYet key is = absurd (cc is)
front_key (NoHead status) key is = absurd (cc is)
front_key (IsRequest q) key is = by q.key refl is
  where
    by : (r : Result Key TargetFault) → q.key ≡ r → (elim r as (λ y. Option Key) [ Ok k ↦ Some k | Err fault ↦ None ]) ≡ Some key → (p : Parsed) × (IsRequest q ≡ IsRequest p) × (p.key ≡ Ok key)
    by (Ok k) ok at = let eq : k ≡ key = cc at in (q, refl, ok ∙ ap (λ y. Ok y) eq)
    by (Err fault) err at = absurd (cc at)

pub keyed_in : (v : State) → FactsOf since v → AreWithin v → (c : Client) (n : Next) → IsIn c v.clients → next_of v c ≡ Some n → IsKeyed c n
keyed_in v f within c n i is =
    let p : Parts v c n = parts_of v c n is in
    let w : Follows c p.id v.instances v.next_instance = f.callers.follows c p.id i (ap source_in (stage_of c p.reply p.is) ∙ p.source) in
    let q = front_key c.front w.key w.asks in
    record {
      request = q.0;
      front = q.1;
      key = w.key;
      is = q.2;
      same_key = ap (λ (m : Next). m.source.key) (sym p.next) ∙ w.same_key p.row (in_find (is_instance p.id) p.row v.instances p.there).0 (row_id v p.id p.row p.there);
      some = subst (λ (m : Next). m.at < m.to) p.next (below p.reply.at p.reply.to p.within);
      within = within c n i is;
    }

asked_in : (s : State) (e : Exchange) → IsIn e (give_up_asks s).exchanges → e.place ≡ None → is_some (filled_of e) ≡ true → IsAsked (give_up_asks s) e
unfolding give_up_asks
asked_in s e i none fills_it =
    let w = in_filter (λ d. not (is_useless_ask s d)) e s.exchanges i in
    let any : list_any (is_wanted_by s e) s.clients ≡ true = wanted (is_some (filled_of e)) (is_some e.place) (list_any (is_wanted_by s e) s.clients) fills_it (ap is_some none) w.1 in
    let y = in_any (is_wanted_by s e) s.clients any in
    let both = halves (is_for e y.0) (is_some_with (λ n. brings s n.source n.at e) (next_of s y.0)) y.2 in
    record { client = y.0; there = y.1; its = both.0; brings_it = both.1 }
  where
    wanted : (a b d : Bool) → a ≡ true → b ≡ false → not (a && not b && not d) ≡ true → d ≡ true
    wanted true false true x y is = refl
    wanted true false false x y is = absurd (cc is)
    wanted true true d x y is = absurd (cc y)
    wanted false b d x y is = absurd (cc x)

    halves : (a b : Bool) → (a && b) ≡ true → (a ≡ true) × (b ≡ true)
    halves true b is = (refl, is)
    halves false b is = absurd (cc is)

known : (s : State) → Sound since (give_up_asks s) → AreWithin (give_up_asks s) → Facts (map (λ (c : Client). c.number) (give_up_asks s).clients) [] (give_up_asks s)
known s h within =
    let f = sound_facts h in
    record {
      named = λ c i. in_map_of client_number c (give_up_asks s).clients i;
      rise = f.callers.rise;
      keyed = keyed_in (give_up_asks s) f within;
      unbound = λ e i none. f.asks.unplaced e i none;
      asked = asked_in s;
      filled = λ c n i j. absurd j;
    }

stops_as : (s : State) → (unseen_dropped s).is_stopped ≡ s.is_stopped
stops_as s = ap (λ (o : Frame). o.is_stopped) (frame_of (give_up_asks-stays {all = true} {o = frame true (in_phase Connecting s)} (drop_unseen (in_phase Connecting s)) (drop_unseen-stays (in_phase Connecting s) (stays refl))))

pub followers_ask : FollowersAsk
unfolding next
followers_ask terms s log obeys at runs within =
    subst (λ (p : Phase). IsReady (behind p s)) (sym at)
    (filled_all (unseen_dropped s) (stops_as s ∙ runs)
    (known (drop_unseen (in_phase Connecting s)) (give_up_asks-sound _ (drop_unseen-sound _ (in_phase-sound Connecting s (obeys_good obeys).sound))) within))
