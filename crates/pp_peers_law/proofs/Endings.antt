-- What the end of a connection makes of the response that comes.
use Rattle.std.proofs.Common.{◌≡◌, refl, sym, ap, ◌∙◌, Bool, true, false, [], Option, Some, None}
use Rattle.std.proofs.lemmas.List.{append-nil}
use Rattle.pp_framing.proofs.BodiesExact.{ending_of-exact}
use Rattle.pp_framing.specs.Body.{Body}
use Rattle.pp_framing.specs.Places.{ending_of as ending_at_place}
use Rattle.pp_framing.specs.Rules.{body_of, ending_in}
use Rattle.pp_framing.specs.declared.body.Ending.{Ending}
use Rattle.pp_framing.specs.declared.body.Ending.TheVariants.{Whole, Short}
use Rattle.pp_framing.specs.declared.place.Place.{Place}
use Rattle.pp_head.specs.Response.{Response}
use Rattle.pp_law.specs.Lists.{Bytes}
use Rattle.pp_law.specs.State.{Answer}
use Rattle.pp_peers_law.specs.Comes.{EndingsAreTheLaws, ending_of}
use Rattle.pp_peers_law.specs.Peers.{IsWithin, ShowsReading}
use Rattle.pp_pipe.specs.Reading.{Reading, Before, Within, Closed, Broken, ending_at}

as_told : (e : Ending) → e ≡ (elim (elim e as (λ x. Bool) [ Whole ↦ true | Short ↦ false ]) as (λ x. Ending) [ true ↦ Whole | false ↦ Short ])
as_told Whole = refl
as_told Short = refl

at_place : (response : Response) (place : Place) (a : Answer) → IsWithin response place a → ending_at_place place ≡ ending_in a.rule (body_of a.rule a.raw).outcome
at_place response place a shows =
    ending_of-exact a.rule place shows.kind
    ∙ sym (ap (λ (b : Body). ending_in a.rule b.outcome) (ap (body_of a.rule) (sym (append-nil a.raw)) ∙ shows.goes_on []))

by_reading : (is_clean : Bool) (reading : Reading) (unread : Bytes) (answer : Option Answer) → ShowsReading reading unread answer → ending_at is_clean reading ≡ ending_of is_clean answer
by_reading is_clean (Before text) unread (Some a) shows = absurd shows
by_reading true (Before text) unread None shows = refl
by_reading false (Before text) unread None shows = refl
by_reading is_clean (Within response place) unread None shows = absurd shows
by_reading true (Within response place) unread (Some a) shows = at_place response place a shows.1 ∙ as_told (ending_in a.rule (body_of a.rule a.raw).outcome)
by_reading false (Within response place) unread (Some a) shows = refl
by_reading is_clean Closed unread answer shows = absurd shows
by_reading is_clean Broken unread answer shows = absurd shows

pub endings : EndingsAreTheLaws
endings s p k is_clean shows is_open = by_reading is_clean p.pipe.reading k.unread k.answer (shows.pipe is_open).reading
