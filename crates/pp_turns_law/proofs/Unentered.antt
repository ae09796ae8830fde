-- Memory is refused for the kept row of a request: it is refused, whatever its exchange brought.
use Rattle.std.proofs.Common.{◌≡◌, refl, sym, subst, ap, ◌∙◌, ℕ, ◌+◌, ◌-◌, ◌^◌, min, Bool, true, false, ◌&&◌, List, Some, None, Option}
use Rattle.std.specs.Prelude.{slice_get, slice_set}
use Rattle.pp_client.specs.Replies.{may_interim, with_interim as interim_on}
use Rattle.pp_turns_law.proofs.Changed.{get_set, set_set}
use Rattle.pp_turns_law.proofs.Left.{left_is}
use Rattle.pp_turns_law.proofs.Quitting.{left_memory}
use Rattle.pp_turns_law.proofs.Refused.{quit, quit_is, quit_number, refusals}
use Rattle.pp_turns_law.proofs.Sitting.{interim_may}
use Rattle.pp_flow_law.specs.Changes.{left_by as flow_left}
use Rattle.pp_flow_law.specs.Tables.{Leaving}
use Rattle.pp_law.specs.Deciding.{decided, decided_by, enter_row, refuse}
use Rattle.pp_law.specs.Lists.{Bytes}
use Rattle.pp_law.specs.State.{State, Client}
use Rattle.pp_objects.specs.declared.id.ObjectId.{ObjectId}
use Rattle.pp_peers.specs.declared.peers.Peer.{Peer}
use Rattle.pp_seats.specs.Accounts.{decided as account_of}
use Rattle.pp_seats.specs.Decided.{expects_in, paged}
use Rattle.pp_seats.specs.Heads.{asked_in}
use Rattle.pp_seats.specs.Seats.{is_undecided_in}
use Rattle.pp_seats.specs.declared.account.Account.{Account}
use Rattle.pp_seats.specs.declared.seat.Brought.TheVariants.{Refused}
use Rattle.pp_seats.specs.declared.seat.Seat.{Seat}
use Rattle.pp_take.specs.Deciding.{GetsPage, IsPaged, IsPagedIf, IsRefused, left_all, accounted}
use Rattle.pp_state.specs.Ends.{Parts, left_at_decision, source_of}
use Rattle.pp_due.specs.Entering.{refused_at}
use Rattle.pp_state.specs.Passing.{may_answer}
use Rattle.pp_state.specs.Places.{IsChangedIn}
use Rattle.pp_states_law.specs.Steps.{ShowsSteps}
use Rattle.pp_world.specs.declared.note.Decision.TheVariants.{Refuse}
use Rattle.pp_turns_law.proofs.Accounted.{accounted_is}
use Rattle.pp_turns_law.proofs.Noted.{noted}
use Rattle.pp_turns_law.specs.Takes.{RefusedRowsAreTheLaws}

-- with what memory was refused for, and another account
abbrev wanting : Account → Seat → Seat
wanting a seat = record seat { brought = Refused; account = a }

-- ---- its page is the same

abbrev interim_if : Bool → Seat → Seat
interim_if b seat = elim b as (λ t. Seat) [
  | true ↦ record seat { client = record seat.client { reply = interim_on seat.client.reply }; before_body = min (seat.before_body + 25) (2 ^ 64 - 1) }
  | false ↦ seat
]

abbrev page_as : ℕ → Account → Seat → Seat
page_as status a seat = record (paged status seat) { account = a }

interim_alike : (b : Bool) (status : ℕ) (a last : Account) (seat : Seat) → page_as status last (interim_if b (wanting a seat)) ≡ page_as status last (interim_if b seat)
interim_alike true status a last seat = refl
interim_alike false status a last seat = refl

page_alike : (o : Option ObjectId) (status : ℕ) (a last : Account) (seat : Seat) → page_as status last (quit o (wanting a seat)) ≡ page_as status last (quit o seat)
page_alike None status a last seat = interim_alike (expects_in (asked_in seat.front) && is_undecided_in seat.stage && may_interim seat.client.reply) status a last seat
page_alike (Some id) status a last seat = interim_alike (expects_in (asked_in seat.front) && is_undecided_in seat.stage && may_interim seat.client.reply) status a last seat

may_as : (o : Option ObjectId) (seat : Seat) → may_answer (quit o seat).client ≡ may_answer seat.client
may_as None seat = interim_may seat
may_as (Some id) seat = interim_may seat

page_of : (b : Bool) (status : ℕ) (old last : Seat) → b ≡ true → IsPagedIf b status old last → last ≡ page_as status last.account old
page_of true status old last is page = page
page_of false status old last is page = absurd (cc is)

is_page : (b : Bool) (status : ℕ) (old last : Seat) → b ≡ true → last ≡ page_as status last.account old → IsPagedIf b status old last
is_page true status old last is page = page
is_page false status old last is page = absurd (cc is)

-- ---- what it leaves is the same

module _ (number : ℕ → ℕ) (name : Bytes) (l : Leaving) (peers : List Peer) (p : Parts) (s : State) (steps : ShowsSteps number name l peers p s) (i status : ℕ) (seat : Seat) (here : slice_get p.seats i ≡ Some seat) (answers : may_answer seat.client ≡ true) where
  abbrev left_with : Seat → Parts
  left_with x = record p { seats = slice_set p.seats i (quit (source_of seat) x); cache = left_memory (source_of seat) p.cache; flow = flow_left seat.client.id p.flow }

  -- with this account, where memory was refused for what it waits for
  abbrev with_refused : Account → Parts
  with_refused a = record p { seats = slice_set p.seats i (wanting a seat) }

  left_plain : left_all i p ≡ left_with seat
  unfolding left_all
  left_plain =
      ap (left_at_decision i) (quit_is i p seat (source_of seat) here refl)
      ∙ left_is number l (record p { seats = slice_set p.seats i (quit (source_of seat) seat); cache = left_memory (source_of seat) p.cache }) s steps.shows.exchanges i (quit (source_of seat) seat) (get_set i p.seats seat (quit (source_of seat) seat) here)
      ∙ ap (λ (n : ℕ). record p { seats = slice_set p.seats i (quit (source_of seat) seat); cache = left_memory (source_of seat) p.cache; flow = flow_left n p.flow }) (quit_number (source_of seat) seat)

  left_refused : (a : Account) → left_all i (with_refused a) ≡ left_with (wanting a seat)
  unfolding left_all
  left_refused a =
      ap (left_at_decision i)
      (quit_is i (with_refused a) (wanting a seat) (source_of seat) (get_set i p.seats seat (wanting a seat) here) refl
      ∙ ap (λ (seats : List Seat). record p { seats = seats; cache = left_memory (source_of seat) p.cache }) (set_set i p.seats (wanting a seat) (quit (source_of seat) (wanting a seat))))
      ∙ left_is number l (record p { seats = slice_set p.seats i (quit (source_of seat) (wanting a seat)); cache = left_memory (source_of seat) p.cache }) s steps.shows.exchanges i (quit (source_of seat) (wanting a seat))
      (get_set i p.seats seat (quit (source_of seat) (wanting a seat)) here)
      ∙ ap (λ (n : ℕ). record p { seats = slice_set p.seats i (quit (source_of seat) (wanting a seat)); cache = left_memory (source_of seat) p.cache; flow = flow_left n p.flow }) (quit_number (source_of seat) (wanting a seat))

  changes_by : (a : Account) (o : Option Seat) (new : List Seat) → o ≡ Some (quit (source_of seat) (wanting a seat)) → IsChangedIn (IsPaged status) o i (left_with (wanting a seat)).seats new
      → (last : Seat) × (last ≡ page_as status last.account (quit (source_of seat) seat)) × (new ≡ slice_set p.seats i last)
  changes_by a None new is changed = absurd (cc is)
  changes_by a (Some y) new is (last, page, set) =
      let same : y ≡ quit (source_of seat) (wanting a seat) = cc is in (
        last,
        page_of (may_answer (quit (source_of seat) (wanting a seat)).client) status (quit (source_of seat) (wanting a seat)) last (may_as (source_of seat) (wanting a seat) ∙ answers) (subst (λ (z : Seat). IsPaged status z last) same page)
            ∙ page_alike (source_of seat) status a last.account seat,
        set ∙ set_set i p.seats (quit (source_of seat) (wanting a seat)) last,
      )

  changes_as : (o : Option Seat) (new : List Seat) (last : Seat) → o ≡ Some (quit (source_of seat) seat) → last ≡ page_as status last.account (quit (source_of seat) seat) → new ≡ slice_set p.seats i last → IsChangedIn (IsPaged status) o i (left_with seat).seats new
  changes_as None new last is page set = absurd (cc is)
  changes_as (Some y) new last is page set =
      let same : y ≡ quit (source_of seat) seat = cc is in (
        last,
        subst (λ (z : Seat). IsPaged status z last) (sym same) (is_page (may_answer (quit (source_of seat) seat).client) status (quit (source_of seat) seat) last (may_as (source_of seat) seat ∙ answers) page),
        set ∙ sym (set_set i p.seats (quit (source_of seat) seat) last),
      )

  -- it is refused as if nothing had been brought
  refused_alike : (a : Account) (new : Parts) → IsRefused i status (with_refused a) new → IsRefused i status p new
  refused_alike a new gets =
      let page : GetsPage status i (left_with (wanting a seat)) new = subst (λ (q : Parts). GetsPage status i q new) (left_refused a) gets in
      let one : (last : Seat) × (last ≡ page_as status last.account (quit (source_of seat) seat)) × (new.seats ≡ slice_set p.seats i last) =
      changes_by a (slice_get (left_with (wanting a seat)).seats i) new.seats (get_set i p.seats seat (quit (source_of seat) (wanting a seat)) here) page.seat in
      subst (λ (q : Parts). GetsPage status i q new) (sym left_plain) (record {
        seat = changes_as (slice_get (left_with seat).seats i) new.seats one.0 (get_set i p.seats seat (quit (source_of seat) seat) here) one.1 one.2;
        rest = ap (λ (q : Parts). record q { seats = (left_with seat).seats }) page.rest;
      })

-- ---- in all

refused_is : (i : ℕ) (p : Parts) (seat : Seat) → slice_get p.seats i ≡ Some seat → record p { seats = refused_at i p.seats } ≡ record p { seats = slice_set p.seats i (record seat { brought = Refused }) }
refused_is i p seat here = ap (λ (o : Option Seat). record p { seats = elim o as (λ t. List Seat) [ None ↦ p.seats | Some x ↦ slice_set p.seats i (record x { brought = Refused }) ] }) here

-- with its account
told_is : (i : ℕ) (p : Parts) (seat : Seat) → slice_get p.seats i ≡ Some seat
    → accounted i (Refuse 500) (record p { seats = refused_at i p.seats }) ≡ record p { seats = slice_set p.seats i (wanting (account_of (Refuse 500) seat.account) seat) }
told_is i p seat here =
    let first : Seat = record seat { brought = Refused } in
    ap (accounted i (Refuse 500)) (refused_is i p seat here)
    ∙ accounted_is i (account_of (Refuse 500)) (record p { seats = slice_set p.seats i first }) first (get_set i p.seats seat first here)
    ∙ ap (λ (seats : List Seat). record p { seats = seats }) (set_set i p.seats first (wanting (account_of (Refuse 500) seat.account) seat))

refused_by_law : (c : Client) (s : State) → refuse c 500 s ≡ decided c (Refuse 500) s
unfolding decided decided_by enter_row
refused_by_law c s = refl

pub refuses : RefusedRowsAreTheLaws
refuses number name l peers p s steps i seat c new ready may it =
    noted number name l peers new (decided c (Refuse 500) s)
    (subst (λ (t : State). ShowsSteps number name l peers new t) (refused_by_law c s)
    (refusals number name l peers p s steps i 500 seat c new ready may
    (refused_alike number name l peers p s steps i 500 seat ready.place.here may.answers (account_of (Refuse 500) seat.account) new (subst (λ (q : Parts). IsRefused i 500 q new) (told_is i p seat ready.place.here) it))))
