-- A life that is given has a number of the law, and those before it keep theirs.
use Rattle.std.proofs.Common.{◌≡◌, ◌<◌, refl, sym, subst, ap, ◌∙◌, ℕ, Bool, true, false, ◌==◌, cond, filter, List, [], ◌∷◌, Some, None, Option, arith}
use Rattle.std.proofs.lemmas.Bool.Decides.{nat_tests}
use Rattle.pp_cache.specs.Memory.{Memory}
use Rattle.pp_cache_law.specs.Pairs.{AreAll, AreBoth}
use Rattle.pp_cache_law.specs.Settles.{numbered}
use Rattle.pp_client.specs.Replies.{Reply as Said}
use Rattle.pp_flow.specs.Changes.{Exchanges, entry_of}
use Rattle.pp_flow.specs.declared.entry.Entry.{Entry}
use Rattle.pp_flow.specs.declared.errand.Body.{Body as ErrandBody}
use Rattle.pp_flow.specs.declared.errand.Body.TheVariants.{Pending as IsPending, Joining as IsJoining, Relaying as IsRelaying, Dropping as IsDropping}
use Rattle.pp_flow_law.specs.Tables.{Leaving, ShowsFlow, has_none}
use Rattle.pp_law.specs.Connections.{exchange}
use Rattle.pp_law.specs.Lists.{Bytes}
use Rattle.pp_law.specs.State.{State, Awaited, Body, Brought, Client, Dropping, Exchange, Joining, Joins, Passes, Pending, Relaying, Stage, TooWide, Useless, Undecided, Waiting, Passing, Answering}
use Rattle.pp_objects.specs.declared.id.ObjectId.{ObjectId}
use Rattle.pp_seats.specs.declared.seat.Brought.{Brought as SeatBrought}
use Rattle.pp_seats.specs.declared.seat.Brought.TheVariants.{Awaited as NoneYet, Useless as NoneOfUse, Joins as JoinsRow, Passes as PassesOn, TooWide as IsTooWide, Refused}
use Rattle.pp_seats.specs.declared.seat.Course.{Course as SeatCourse}
use Rattle.pp_seats.specs.declared.seat.Seat.{Seat}
use Rattle.pp_seats.specs.declared.seat.Stage.{Stage as SeatStage}
use Rattle.pp_seats.specs.declared.seat.Stage.TheVariants.{Undecided as IsUndecided, Waiting as IsWaiting, Passing as IsPassing, Answering as IsAnswering}
use Rattle.pp_seats_law.specs.Clients.{AreShown}
use Rattle.pp_seats_law.specs.Exchanges.{Binding, ShowsBody, ShowsExchange}
use Rattle.pp_seats_law.specs.Replies.{ShowsBrought, ShowsFate, ShowsStage, source_number}
use Rattle.pp_seats_law.specs.Seats.{ShowsOpen}
use Rattle.pp_states_law.proofs.Told.{told_of}
use Rattle.pp_states_law.specs.Told.{AreTold, EachIsTold, IsToldBy}
use Rattle.pp_answers_law.specs.Making.{AreGivenSeats, IsGiven, IsGivenBrought, IsGivenSeat, IsGivenSource}

off : (k life : ℕ) → k < life → (k == life) ≡ false
off k life less = grind (arith, nat_tests)

pub keeps : (life n k : ℕ) (number : ℕ → ℕ) → k < life → numbered life n number k ≡ number k
keeps life n k number less = ap (λ (b : Bool). cond b n (number k)) (off k life less)

module _ (life n : ℕ) (number : ℕ → ℕ) where
  abbrev new : ℕ → ℕ
  new = numbered life n number

  -- ---- clients

  source_kept : (o : Option ObjectId) → IsGiven life o → source_number new o ≡ source_number number o
  source_kept None given = refl
  source_kept (Some id) given = ap (λ (k : ℕ). Some k) (keeps life n id.life number given)

  stage_kept : (said : Said) (stage : SeatStage) (other : Stage) → IsGivenSource life stage → ShowsStage number said stage other → ShowsStage new said stage other
  stage_kept said IsUndecided Undecided given shows = shows
  stage_kept said IsUndecided Waiting given shows = absurd shows
  stage_kept said IsUndecided Passing given shows = absurd shows
  stage_kept said IsUndecided (Answering r) given shows = absurd shows
  stage_kept said IsWaiting Undecided given shows = absurd shows
  stage_kept said IsWaiting Waiting given shows = shows
  stage_kept said IsWaiting Passing given shows = absurd shows
  stage_kept said IsWaiting (Answering r) given shows = absurd shows
  stage_kept said IsPassing Undecided given shows = absurd shows
  stage_kept said IsPassing Waiting given shows = absurd shows
  stage_kept said IsPassing Passing given shows = shows
  stage_kept said IsPassing (Answering r) given shows = absurd shows
  stage_kept said (IsAnswering a) Undecided given shows = absurd shows
  stage_kept said (IsAnswering a) Waiting given shows = absurd shows
  stage_kept said (IsAnswering a) Passing given shows = absurd shows
  stage_kept said (IsAnswering a) (Answering r) given shows = record { decision = shows.decision; source = source_kept a.source given ∙ shows.source; begun = shows.begun; says = shows.says }

  fate_kept : (name : Bytes) (owed : List Bytes) (said : Said) (course : SeatCourse) (b : SeatBrought) (d : Brought) (c : Client) → c.brought ≡ d → IsGivenBrought life b → ShowsFate number name owed said course b c → ShowsFate new name owed said course b c
  fate_kept name owed said course NoneYet d c is given fate = fate
  fate_kept name owed said course NoneOfUse d c is given fate = fate
  fate_kept name owed said course (PassesOn x) d c is given fate = fate
  fate_kept name owed said course IsTooWide d c is given fate = fate
  fate_kept name owed said course Refused d c is given fate = fate
  fate_kept name owed said course (JoinsRow id plain) d c is given fate =
      (fate.0, subst (λ (e : Brought). ShowsBrought new name said c.front (JoinsRow id plain) e) (sym is) (at d (subst (λ (e : Brought). ShowsBrought number name said c.front (JoinsRow id plain) e) is fate.1)))
    where
      at : (e : Brought) → ShowsBrought number name said c.front (JoinsRow id plain) e → ShowsBrought new name said c.front (JoinsRow id plain) e
      at Awaited shown = absurd shown
      at Useless shown = absurd shown
      at (Joins k other) shown = (keeps life n id.life number given ∙ shown.0, shown.1)
      at (Passes p) shown = absurd shown
      at TooWide shown = absurd shown

  open_kept : (name : Bytes) (owed : List Bytes) (seat : Seat) (c : Client) → IsGivenSeat life seat → ShowsOpen number name owed seat c → ShowsOpen new name owed seat c
  open_kept name owed seat c given shows = record {
    hung_up = shows.hung_up;
    mark = shows.mark;
    heard = shows.heard;
    body = shows.body;
    over = shows.over;
    front = shows.front;
    body_left = shows.body_left;
    index = shows.index;
    stage = stage_kept seat.client.reply seat.stage c.stage given.source shows.stage;
    waits_on = shows.waits_on;
    fate = fate_kept name owed seat.client.reply seat.course seat.brought c.brought c refl given.brought shows.fate;
    asked = shows.asked;
    piped = shows.piped;
    given_up = shows.given_up;
    interim = shows.interim;
    before_body = shows.before_body;
    closes = shows.closes;
  }

  pub clients_kept : (name : Bytes) (owed : List Bytes) (seats : List Seat) (cs : List Client) → AreGivenSeats life seats → AreShown number name owed seats cs → AreShown new name owed seats cs
  clients_kept name owed [] [] given shows = tt
  clients_kept name owed [] (c ∷ cs) given shows = absurd shows
  clients_kept name owed (seat ∷ seats) [] given shows = absurd shows
  clients_kept name owed (seat ∷ seats) (c ∷ cs) given shows = (
    record { number = shows.0.number; closing = shows.0.closing; going = λ goes. open_kept name owed seat c given.0 (shows.0.going goes) },
    clients_kept name owed seats cs given.1 shows.1,
  )

  -- ---- exchanges

  body_kept : (m : Memory) (same : m.lives ≡ life) (next : ℕ) (body : ErrandBody) (headed : Bool) (bound : Option Binding) (other : Body) → IsToldBy number m next bound → ShowsBody number body headed bound other → ShowsBody new body headed bound other
  body_kept m same next (IsJoining far) true (Some x) (Joining b) given shown = record { joined = keeps life n x.0.life number (subst (λ (k : ℕ). x.0.life < k) same given.given) ∙ shown.joined; next = shown.next; to = shown.to; is_all = shown.is_all; wanted = shown.wanted }
  body_kept m same next IsPending false None Pending given shown = tt
  body_kept m same next IsRelaying true None Relaying given shown = tt
  body_kept m same next (IsDropping k) true None Dropping given shown = tt
  body_kept m same next body headed bound other given shown = absurd shown

  entry_kept : (m : Memory) (same : m.lives ≡ life) (next : ℕ) (x : Entry) (e : Exchange) → IsToldBy number m next x.exchange.bound → ShowsExchange number x e → ShowsExchange new x e
  entry_kept m same next x e given one = record {
    number = one.number;
    asker = one.asker;
    aim = one.aim;
    place = one.place;
    text_key = one.text_key;
    parts = one.parts;
    named = one.named;
    is_ranged = one.is_ranged;
    is_moved = one.is_moved;
    is_asked_once = one.is_asked_once;
    asks_head = one.asks_head;
    is_safe = one.is_safe;
    binds = one.binds;
    identity = one.identity;
    guess = one.guess;
    text = one.text;
    asked = one.asked;
    body_left = one.body_left;
    requested = one.requested;
    body = body_kept m same next x.errand.body x.exchange.headed x.exchange.bound e.body given one.body;
  }

  each_kept : (m : Memory) (same : m.lives ≡ life) (next k : ℕ) (f : Exchanges) (s : State) → AreTold number m next f → AreBoth (ShowsExchange number) (entry_of k f) (exchange s k) → AreBoth (ShowsExchange new) (entry_of k f) (exchange s k)
  each_kept m same next k f s told both = by (entry_of k f) (exchange s k) refl both
    where
      by : (u : Option Entry) (w : Option Exchange) → entry_of k f ≡ u → AreBoth (ShowsExchange number) u w → AreBoth (ShowsExchange new) u w
      by None None is one = tt
      by None (Some e) is one = absurd one
      by (Some x) None is one = absurd one
      by (Some x) (Some e) is one = entry_kept m same next x e (told_of number m next k f x told is) one

  all_kept : (m : Memory) (same : m.lives ≡ life) (next : ℕ) (xs : List Entry) (es : List Exchange) → EachIsTold number m next xs → AreAll (ShowsExchange number) xs es → AreAll (ShowsExchange new) xs es
  all_kept m same next [] [] told all = tt
  all_kept m same next [] (e ∷ es) told all = absurd all
  all_kept m same next (x ∷ xs) [] told all = absurd all
  all_kept m same next (x ∷ xs) (e ∷ es) told all = (entry_kept m same next x e told.0 all.0, all_kept m same next xs es told.1 all.1)

  pub flow_kept : (m : Memory) (same : m.lives ≡ life) (next : ℕ) (l : Leaving) (f : Exchanges) (s : State) → AreTold number m next f → ShowsFlow number l f s → ShowsFlow new l f s
  flow_kept m same next l f s told shows = record {
    each = λ k. each_kept m same next k f s told (shows.each k);
    waiting = all_kept m same next f.waiting (filter has_none s.exchanges) told.waiting shows.waiting;
    lines = shows.lines;
    once = shows.once;
    begun = shows.begun;
    given = shows.given;
  }
