-- What the law alone gives of each moment of a read of an origin: what its head, its body and what is awaited rest on.
use Rattle.std.proofs.Common.{◌≡◌, ◌≤◌, refl, sym, subst, ap, ◌∙◌, ℕ, Bool, true, false, length, List, [], ◌∷◌, Option, Some, None, inl, le_refl}
use Rattle.pp_answers_law.specs.Making.{AreGivenSeats}
use Rattle.pp_cache_law.proofs.Numbers.{some_is}
use Rattle.pp_turns_law.proofs.Peers.{HasPeer, linked}
use Rattle.pp_turns_law.specs.Sides.{ShowsSides}
use Rattle.pp_desk.specs.Closings.{Sides}
use Rattle.pp_endings_law.specs.Gone.{IsAnswering}
use Rattle.pp_flow_law.specs.Tables.{none_leaves}
use Rattle.pp_grown_law.proofs.Numbers.{Rise}
use Rattle.pp_grown_law.proofs.SizeReads.{got_size}
use Rattle.pp_law.specs.Asking.{read_room}
use Rattle.pp_law.specs.Connections.{exchange, front_of_line, is_conn, is_exchange}
use Rattle.pp_law.specs.Lists.{Bytes}
use Rattle.pp_law.specs.Responses.{got}
use Rattle.pp_law.specs.Stages.{is_headed}
use Rattle.pp_law.specs.State.{State, Answer, Conn, Exchange, Handling, ReadOf, Term}
use Rattle.pp_laws.proofs.Lists.{in_find}
use Rattle.pp_laws.proofs.Sound.{facts_of as sound_facts, first_of}
use Rattle.pp_laws.proofs.Tests.{same_number}
use Rattle.pp_laws.specs.Runs.{IsIn}
use Rattle.pp_laws_answers.proofs.Firsts.{first_there}
use Rattle.pp_laws_answers.specs.Answers.{IsToFirst}
use Rattle.pp_laws_bounds.proofs.Kept.{facts_of as kept_facts}
use Rattle.pp_laws_brought.proofs.View.{facts_of as brought_facts}
use Rattle.pp_laws_turn.proofs.Laws.{asks_once}
use Rattle.pp_laws_turn.proofs.Lifts.{few_bodies_on, few_rows_on, kept_on}
use Rattle.pp_laws_turn.proofs.View.{facts_of}
use Rattle.pp_obeys.specs.Obeys.{Obeys}
use Rattle.pp_origins.specs.Gots.{Both, HasGot, Makes, both, remaining, sides_of}
use Rattle.pp_proxy.specs.Moving.{Turning}
use Rattle.pp_reads_law.proofs.Fronts.{IsFront, is_front}
use Rattle.pp_reads_law.specs.Bads.{IsDue, IsOpen}
use Rattle.pp_reads_law.specs.Brings.{IsMoment, RestsOn}
use Rattle.pp_reads_law.specs.Readable.{IsBrought, MayBring}
use Rattle.pp_reads_law.specs.Reads.{SuppliesBody}
use Rattle.pp_reads_law.specs.Heads.{FollowedAreThere}
use Rattle.pp_peers_law.specs.Peers.{ShowsLine}
use Rattle.pp_rests_law.proofs.Busy.{few_busy}
use Rattle.pp_state.specs.Ends.{Parts, parts}
use Rattle.pp_store.specs.Kept.{KeptMap}
use Rattle.pp_world.specs.Log.{Log}
use Rattle.pp_comes_law.proofs.DataThere.{data_go}
use Rattle.pp_comes_law.proofs.GotPieces.{as_many, body_fewer, going_of, unread_of}
use Rattle.pp_comes_law.proofs.NamesThere.{followed_amid, followed_behind, given_amid}
use Rattle.pp_comes_law.proofs.OriginThere.{first_shown}
use Rattle.pp_comes_law.proofs.MarkReads.{HasSpace}
use Rattle.pp_comes_law.proofs.RoomReads.{chunk_free, few_bytes, size_there, space_at, space_first}
use Rattle.pp_comes_law.specs.Named.{NamesAreThere}
use Rattle.pp_comes_law.specs.Moments.{MayBringBeside, ReadsRest, RestsBeside, StandsToRead}
use Rattle.pp_comes_law.proofs.AtMoments.{AtMoment, at_first, at_moment, owes_read}
use Rattle.pp_comes_law.proofs.HeadMoments.{head_rests}
use Rattle.pp_comes_law.proofs.PipeRooms.{HasPipes, pipes_at, pipes_fit}

module _ (shelf : KeptMap) (n : ℕ) (name : Bytes) (y x : Both) (s : State) (bytes : Bytes) (m : AtMoment n ⊥ s) (number : ℕ → ℕ) (shows : ShowsSides number name (sides_of x) s) (given : AreGivenSeats x.state.cache.lives x.state.seats.items) (followed : FollowedAreThere (parts x.state)) (critical : ℕ) (size : critical ≤ x.state.cache.size) (space : HasSpace n critical s bytes) (pipes : HasPipes n s bytes) (beside : RestsBeside shelf n y x s bytes) where
  -- ---- a body

  body : (k : Conn) (a : Answer) → IsOpen s n k → k.answer ≡ Some a → SuppliesBody x s n k a bytes
  body k a on has = record {
    exchange = found.0;
    peer = its.peer;
    within = record {
      on = record {
        may = record { there = on.there; goes_on = on.goes_on; answers = λ b is. answering; once = λ i. asks_once s (sound_facts m.goes.sound).asks.rise (facts_of m.turn) i };
        answer = has;
        linked = its.there;
        pipelines = λ alone. (facts_of m.turn).lined.few k here alone;
      };
      front = front;
      headed = headed;
    };
    may = data_go x s k found.0 a bytes m.goes.sound (brought_facts m.brought) here (in_find (is_exchange to.number) found.0 s.exchanges found.1).0 (subst (λ (ns : List ℕ). IsIn found.0.number ns) (sym to.line) (inl numbered)) has m.whole
        (chunk_free number name n critical x s bytes shows m.whole m.goes.comes m.goes.sound size space k a found.0 on.there has front answering.known) (pipes_fit n s bytes m.goes pipes k a found.0 on.there has front);
    going = going_of s m.goes.comes k a here has;
  }
    where
      here : IsIn k s.conns
      here = (in_find (is_conn n) k s.conns on.there).0

      its : HasPeer s n x.peers k
      its = linked s n x.peers s.conns k on.there shows.steps.shows.conns

      to : IsToFirst s k
      to = first_there s m.lined k a here has

      found : (e : Exchange) × (exchange s to.number ≡ Some e)
      found = first_shown s to.number to.others its.peer.pipe.asks (subst (λ (ns : List ℕ). ShowsLine s ns its.peer.pipe.asks) to.line (its.shows.pipe on.goes_on).line)

      numbered : found.0.number ≡ to.number
      numbered = same_number found.0.number to.number (in_find (is_exchange to.number) found.0 s.exchanges found.1).1

      answering : IsAnswering s k
      answering = record { first = found.0; others = to.others; line = to.line ∙ ap (λ i. i ∷ to.others) (sym numbered); known = subst (λ i. exchange s i ≡ Some found.0) (sym numbered) found.1; whole = to.whole found.0 found.1 }

      front : front_of_line s k ≡ Some found.0
      front = ap (λ (ns : List ℕ). elim ns as (λ t. Option Exchange) [ [] ↦ None | i ∷ more ↦ exchange s i ]) to.line ∙ found.1

      none_number : None ≡ Some k.number → ⊥
      none_number both = cc both

      headed : is_headed found.0 ≡ true
      headed =
          let first = (facts_of m.goes.owned).front k a here (λ but. none_number but) has in
          first.headed found.0 (in_find (is_exchange to.number) found.0 s.exchanges found.1).0 (numbered ∙ some_is to.number first.number (sym (ap first_of to.line) ∙ first.first))

  -- ---- one that is awaited

  unheaded : (k : Conn) (e : Exchange) → IsDue s n k e → k.answer ≡ None → is_headed e ≡ false
  unheaded k e due none = by (is_headed e) refl
    where
      front : IsFront s k e
      front = is_front s k e due.front

      by : (b : Bool) → is_headed e ≡ b → b ≡ false
      by false is = refl
      by true is =
          absurd
          (((facts_of m.goes.owned).behind k e (in_find (is_conn n) k s.conns due.on.there).0 (in_find (is_exchange e.number) e s.exchanges front.known).0 (subst (λ (ns : List ℕ). IsIn e.number ns) (sym front.line) (inl refl)) is).1 none)

  -- ---- all

  rests_on : RestsOn shelf n y x s bytes
  rests_on = record {
    disk = beside.disk;
    may = record { few = few_rows_on s (false, m.small); busy = few_busy number none_leaves x.state.flow s shows.steps.shows.exchanges (few_bodies_on s (false, m.small)); given = given };
    forgotten = beside.forgotten;
    enough = λ most few. as_many most (length bytes) n bytes s m.goes.comes few (le_refl (length bytes));
    fewer = λ k a b rest is on has. body_fewer k a b rest s (going_of s m.goes.comes k a (in_find (is_conn n) k s.conns on.there).0 has);
    awaits = λ k e due none. record { unread = unread_of s m.goes.comes k (in_find (is_conn n) k s.conns due.on.there).0; none = unheaded k e due none };
    heads = λ number1 next k e behind more run there it. head_rests shelf n x s m number1 k e there followed next bytes behind it;
    bodies = body;
  }

pub reads_rest : ReadsRest
reads_rest terms log name shelf n begins from all ends obeys at reading going forgotten stands brought sized names beside pieces x s bytes is leads number shows =
    rests_on shelf n name ends x s bytes (moment pieces x s bytes is) number shows (given_amid pieces name shelf n begins x from s all bytes names is) (followed_amid pieces name shelf n begins x from s all bytes names is) from.settings.critical
    (subst (λ (m : ℕ). from.settings.critical ≤ m) (sym sized ∙ size_there number name shelf n x ends s shows leads) (le_refl from.settings.critical))
    (space_at name shelf n begins from all from.settings.critical (λ p w u more i. let m = moment p w u more i in (m.goes.comes, m.goes.sound)) pieces x s bytes
    (space_first terms n from log all obeys reading (few_bytes (read_room from n) all brought) (λ k i. (kept_facts (kept_on terms from log obeys)).lines.short k i)) is)
    (pipes_at name shelf n begins from all (λ p w u more i. (moment p w u more i).goes) pieces x s bytes brought is) (beside pieces x s bytes is leads number shows)
  where
    moment : (p : ℕ) (w : Both) (u : State) (more : Bytes) → IsMoment p name shelf n begins from all w u more → AtMoment n ⊥ u
    moment p w u more i = at_moment name shelf n begins from all p w u more (owes_read from n reading) (at_first terms shelf n from log obeys at (owes_read from n reading) going forgotten stands) i

pub bytes_rest : (terms : List Term) (log : Log) (k : ℕ) (x y : Turning) (s : State) → Obeys terms s log → s.phase ≡ Handling → s.owed ≡ ReadOf k → s.is_stopped ≡ false → s.forgotten ≡ [] → StandsToRead x.shelf s → ((bytes : Bytes) → IsBrought k x y s bytes → x.moving.desk.state.cache.size ≡ s.settings.critical) → Rise x.moving.desk.state.flow → NamesAreThere (parts x.moving.desk.state)
    → MayBringBeside k x y s → MayBring k x y s
bytes_rest terms log k x y s obeys at reading going forgotten stands size rise names brings = record {
  rests = λ begins next bytes brought same got straight. reads_rest terms log x.moving.desk.state.name.items x.shelf k begins s bytes next obeys at reading going forgotten stands brought.fits (sized begins next bytes same got ∙ size bytes brought) (there begins same) (brings.rests begins next bytes brought same got straight);
  followed = λ begins next bytes brought same got straight. followed_behind 65600 x.shelf k (Some (remaining bytes [])) begins next (there begins same) got;
}
  where
    there : (begins : Both) → Makes (λ z. z) (both x.moving.desk) begins → NamesAreThere (parts begins.state)
    there begins same = subst (λ (p : Parts). NamesAreThere p) (sym (ap (λ (z : Sides). z.parts) same.is)) names

    sized : (begins next : Both) (bytes : Bytes) → Makes (λ z. z) (both x.moving.desk) begins → HasGot x.shelf k bytes begins next → next.state.cache.size ≡ x.moving.desk.state.cache.size
    sized begins next bytes same got =
        (got_size k 65600 x.shelf (Some (remaining bytes [])) begins next got (subst Rise (sym (ap (λ (z : Sides). z.parts.flow) same.is)) rise)).size ∙ ap (λ (z : Sides). z.parts.cache.size) same.is
