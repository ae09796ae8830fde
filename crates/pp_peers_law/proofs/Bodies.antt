-- The body of a response that comes on a connection.
use Rattle.std.proofs.Common.{◌≡◌, refl, sym, subst, ap, ◌∙◌, ℕ, drop, slice_range, [], ◌++◌, Some}
use Rattle.std.proofs.Math.Seq.{drop-length}
use Rattle.std.proofs.lemmas.List.{append_assoc, append-nil}
use Rattle.pp_framing.specs.Body.{Body, Outcome, behind, no_data, Bad as NoBody, Done, Going}
use Rattle.pp_framing.specs.Places.{read_from, state_of}
use Rattle.pp_framing.specs.Rules.{body_of}
use Rattle.pp_framing.specs.declared.body.BodyState.TheVariants.{Going as IsGoing}
use Rattle.pp_framing.specs.declared.place.Place.{Place}
use Rattle.pp_framing.specs.declared.place.Place.TheVariants.{Over, Wrong}
use Rattle.pp_head.specs.Response.{Response}
use Rattle.pp_law.specs.Lists.{Bytes}
use Rattle.pp_law.specs.Responses.{payload_of}
use Rattle.pp_law.specs.State.{Answer}
use Rattle.pp_peers_law.specs.Comes.{BodiesAreTheLaws, IsAmid, IsDataRead, IsEndRead, IsFaultRead, IsPauseRead, ReadsBeginAsTheLaws, ShowsAmid}
use Rattle.pp_peers_law.specs.Peers.{IsWithin, ShowsReading}
use Rattle.pp_pipe.specs.Feeding.{IsEndTold, IsFaultTold, IsPauseTold, IsRunTold}
use Rattle.pp_pipe.specs.Front.{fate_of}
use Rattle.pp_pipe.specs.Reading.{Reading, Before, Within, Closed, Broken, behind_it}
use Rattle.pp_pipe.specs.declared.step.Step.TheVariants.{Head, Body as BodyStep, End, Bad, Idle}

-- ---- a read begins

amid : (response : Response) (place : Place) (a : Answer) (bytes : Bytes) → IsWithin response place a → IsAmid response place a bytes bytes []
amid response place a bytes shows = record {
  head = shows.head;
  goes_on = λ more.
      ap (body_of a.rule) (append_assoc a.raw bytes more) ∙ shows.goes_on (bytes ++ more)
      ∙ ap (λ (t : Bytes). behind t (read_from place (bytes ++ more))) (sym (append-nil (payload_of a)));
  kind = shows.kind;
}

pub begins : ReadsBeginAsTheLaws
begins (Before text) unread bytes a shows = absurd shows
begins (Within response place) unread bytes a shows = amid response place a bytes shows.1
begins Closed unread bytes a shows = absurd shows
begins Broken unread bytes a shows = absurd shows

-- ---- a step of it

behind_both : (x y : Bytes) (body : Body) → behind x (behind y body) ≡ behind (x ++ y) body
behind_both x y body = ap (λ (t : Bytes). record { payload = t; outcome = body.outcome }) (sym (append_assoc x y body.payload))

nothing_behind : (x : Bytes) (o : Outcome) → behind x (no_data o) ≡ record { payload = x; outcome = o }
nothing_behind x o = ap (λ (t : Bytes). record { payload = t; outcome = o }) (append-nil x)

-- the bytes of the read alone
no_more : (raw bytes : Bytes) → raw ++ bytes ≡ raw ++ bytes ++ []
no_more raw bytes = sym (append-nil (raw ++ bytes))

data_read : (response : Response) (place : Place) (a : Answer) (bytes left came : Bytes) (used from to : ℕ) (next : Reading) → IsAmid response place a bytes left came
    → IsRunTold response place left used from to next → IsDataRead a bytes left came from to used next
data_read response place a bytes left came used from to next shows told = record {
  some = told.some;
  within = told.within;
  shows = subst (λ (r : Reading). ShowsAmid r a bytes (drop used left) (came ++ slice_range left from to)) (sym told.leaves) (record {
    head = shows.head;
    goes_on = λ more.
        shows.goes_on more ∙ ap (behind (payload_of a ++ came)) (told.body.reads more)
        ∙ behind_both (payload_of a ++ came) (slice_range left from to) (read_from told.next (drop used left ++ more))
        ∙ ap (λ (t : Bytes). behind t (read_from told.next (drop used left ++ more))) (append_assoc (payload_of a) came (slice_range left from to));
    kind = told.body.kind ∙ shows.kind;
  });
}

end_read : (response : Response) (place : Place) (a : Answer) (bytes left came : Bytes) (used : ℕ) (next : Reading) → IsAmid response place a bytes left came
    → IsEndTold response place left used next → IsEndRead a bytes left came used next
end_read response place a bytes left came used next shows told = record {
  body =
      ap (body_of a.rule) (no_more a.raw bytes) ∙ shows.goes_on [] ∙ ap (behind (payload_of a ++ came)) (told.body [])
      ∙ nothing_behind (payload_of a ++ came) (Done (drop used left ++ []))
      ∙ ap (λ (t : Bytes). record { payload = payload_of a ++ came; outcome = Done t }) (append-nil (drop used left));
  leaves = told.leaves ∙ ap (λ (r : Response). behind_it (fate_of r)) shows.head;
}

fault_read : (response : Response) (place : Place) (a : Answer) (bytes left came : Bytes) (used : ℕ) (next : Reading) → IsAmid response place a bytes left came
    → IsFaultTold place left used next → IsFaultRead a bytes left came used next
fault_read response place a bytes left came used next shows told = record {
  body =
      ap (body_of a.rule) (no_more a.raw bytes) ∙ shows.goes_on [] ∙ ap (behind (payload_of a ++ came)) (told.body [])
      ∙ nothing_behind (payload_of a ++ came) NoBody;
  all = told.all;
  leaves = told.leaves;
}

-- the place is one where more has to come
waits : (place : Place) → state_of place ≡ IsGoing → read_from place [] ≡ no_data Going
waits Over is = absurd (cc is)
waits Wrong is = absurd (cc is)
waits place is = refl

pause_read : (response : Response) (place : Place) (a : Answer) (bytes left came : Bytes) (used : ℕ) (next : Reading) → IsAmid response place a bytes left came
    → IsPauseTold response place left used next → IsPauseRead a bytes left came used next
pause_read response place a bytes left came used next shows told = record {
  body = whole;
  all = told.all;
  shows = subst (λ (r : Reading). ShowsReading r [] (Some (record a { raw = a.raw ++ bytes }))) (sym told.leaves) (
    refl,
    record {
      head = shows.head;
      goes_on = λ more. on more ∙ ap (λ (t : Bytes). behind t (read_from told.next more)) (sym (ap (λ (b : Body). b.payload) whole));
      kind = told.body.kind ∙ shows.kind;
    },
  );
}
  where
    none_left : (more : Bytes) → drop used left ++ more ≡ more
    none_left more = ap (λ (n : ℕ). drop n left ++ more) told.all ∙ ap (λ (t : Bytes). t ++ more) (drop-length left)

    on : (more : Bytes) → body_of a.rule (a.raw ++ bytes ++ more) ≡ behind (payload_of a ++ came) (read_from told.next more)
    on more = shows.goes_on more ∙ ap (behind (payload_of a ++ came)) (told.body.reads more ∙ ap (λ (t : Bytes). behind [] (read_from told.next t)) (none_left more))

    whole : body_of a.rule (a.raw ++ bytes) ≡ record { payload = payload_of a ++ came; outcome = Going }
    whole = ap (body_of a.rule) (no_more a.raw bytes) ∙ on [] ∙ ap (behind (payload_of a ++ came)) (waits told.next told.going) ∙ nothing_behind (payload_of a ++ came) Going

pub bodies : BodiesAreTheLaws
bodies a (Before text) bytes left came awaited used step next shows fed = absurd shows
bodies a (Within response place) bytes left came awaited used Head next shows fed = fed
bodies a (Within response place) bytes left came awaited used (BodyStep from to) next shows fed = data_read response place a bytes left came used from to next shows fed
bodies a (Within response place) bytes left came awaited used End next shows fed = end_read response place a bytes left came used next shows fed
bodies a (Within response place) bytes left came awaited used Bad next shows fed = fault_read response place a bytes left came used next shows fed
bodies a (Within response place) bytes left came awaited used Idle next shows fed = pause_read response place a bytes left came used next shows fed
bodies a Closed bytes left came awaited used step next shows fed = absurd shows
bodies a Broken bytes left came awaited used step next shows fed = absurd shows
