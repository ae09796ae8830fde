-- That a response came for a request of a client: as a log grows, and as a connection is read.
use Rattle.std.proofs.Common.{◌≡◌, refl, ℕ, ◌==◌, Bool, true, false, List, [], ◌∷◌, ◌++◌, drop, length, Option, Some, None, Ok, sym, subst, ap, ◌∙◌, append_assoc}
use Rattle.std.proofs.lemmas.List.{append-nil}
use Rattle.pp_framing.proofs.BodiesExact.{read_from-first_place}
use Rattle.pp_framing.specs.Body.{Body, Outcome, Done, Going, Bad}
use Rattle.pp_framing.specs.Framing.{rule_of}
use Rattle.pp_framing.specs.Places.{first_place, datum, step, read_from}
use Rattle.pp_framing.specs.Rules.{body_of, ending_in}
use Rattle.pp_framing.specs.declared.body.BodyRule.{BodyRule}
use Rattle.pp_framing.specs.declared.body.Ending.{Ending}
use Rattle.pp_framing.specs.declared.body.Ending.TheVariants.{Whole as EndsWhole, Short}
use Rattle.pp_framing.specs.declared.place.Place.TheVariants.{Over, Wrong}
use Rattle.pp_framing.specs.declared.place.Place.{Place}
use Rattle.pp_head.specs.Response.{Response, response_at}
use Rattle.pp_head.specs.Read.{Whole}
use Rattle.pp_world.specs.Log.{Log}
use Rattle.pp_world.specs.Streams.{got as got_of, got_in}
use Rattle.pp_world.specs.declared.happening.Happening.{Happening}
use Rattle.pp_world.specs.declared.happening.Happening.TheVariants.{Ended}
use Rattle.pp_law.specs.Connections.{is_for}
use Rattle.pp_law.specs.Lists.{Bytes, is_this}
use Rattle.pp_law.specs.Responses.{asks_head, is_whole_at_end}
use Rattle.pp_law.specs.State.{State, Term, Answer, Client, Exchange}
use Rattle.pp_laws.specs.Runs.{IsIn, state_after}
use Rattle.pp_laws.proofs.Tests.{number_same}
use Rattle.pp_laws_passed.proofs.FedHeads.{Stem}
use Rattle.pp_laws_sent.specs.Stands.{WasAskedOn}
use Rattle.pp_laws_sent.specs.Whole.{HasArrived, IsItsOwn, IsWhole, WasItsOwn, by_itself, by_the_end}
use Rattle.pp_laws_sent.proofs.Bodies.{whole_more}
use Rattle.pp_laws_sent.proofs.Came.{Began}
use Rattle.pp_laws_sent.proofs.Ours.{Stood}

-- ---- a body up to its end

same_rest : {xs ys : List ℕ} → Done xs ≡ Done ys → xs ≡ ys
same_rest e = cc e

pub record Cut (whole : List ℕ → Body) (text rest : List ℕ) : Type 0 where
  pub used : List ℕ
  pub parts : text ≡ used ++ rest
  pub ends : (whole used).outcome ≡ Done []
  pub same : (whole used).payload ≡ (whole text).payload

read_cut : (place : Place) (text rest : List ℕ) → (read_from place text).outcome ≡ Done rest → Cut (read_from place) text rest
read_cut Over text rest is = record { used = []; parts = same_rest is; ends = refl; same = refl }
read_cut Wrong text rest is = absurd (cc is)
read_cut place [] rest is = absurd (cc is)
read_cut place (b ∷ text) rest is =
    let r = read_cut (step place b) text rest is in
    record { used = b ∷ r.used; parts = ap (λ (xs : List ℕ). b ∷ xs) r.parts; ends = r.ends; same = ap (λ (xs : List ℕ). datum place b ++ xs) r.same }

-- what follows a body is no part of it
pub done_cut : (rule : BodyRule) (text rest : List ℕ) → (body_of rule text).outcome ≡ Done rest → Cut (body_of rule) text rest
done_cut rule text rest is =
    let r = read_cut (first_place rule) text rest (ap (λ (b : Body). b.outcome) (read_from-first_place rule text) ∙ is) in
    record {
      used = r.used;
      parts = r.parts;
      ends = ap (λ (b : Body). b.outcome) (sym (read_from-first_place rule r.used)) ∙ r.ends;
      same = ap (λ (b : Body). b.payload) (sym (read_from-first_place rule r.used)) ∙ r.same ∙ ap (λ (b : Body). b.payload) (read_from-first_place rule text);
    }

-- ---- a log grows

pub own_still : (terms : List Term) (log : Log) (h : Happening) (number of_client index : ℕ) (e : Exchange) → WasItsOwn terms log number of_client index e → WasItsOwn terms (log ++ h ∷ []) number of_client index e
own_still terms log h number of_client index e w = record { front = w.front; behind = w.behind ++ h ∷ []; parts = sym (append_assoc w.front w.behind (h ∷ [])) ∙ ap (λ (l : Log). l ++ h ∷ []) w.parts; then = w.then }

whole_still : (log : Log) (h : Happening) (number : ℕ) (stream : Bytes) (rule : BodyRule) (raw : Bytes) → IsWhole log number stream rule raw → IsWhole (log ++ h ∷ []) number stream rule raw
whole_still log h number stream rule raw (by_itself is) = by_itself is
whole_still log h number stream rule raw (by_the_end front behind parts came is) = by_the_end front (behind ++ h ∷ []) (ap (λ (l : Log). l ++ h ∷ []) parts ∙ append_assoc front (Ended number ∷ behind) (h ∷ [])) came is

pub arrived_still : (terms : List Term) (log : Log) (h : Happening) → ((number : ℕ) → got_of number (log ++ h ∷ []) ≡ got_of number log ++ got_in number h) → ((number : ℕ) (e : Exchange) → WasAskedOn terms log number e → WasAskedOn terms (log ++ h ∷ []) number e)
    → (of_client index : ℕ) (head : Response) (rule : BodyRule) (content : Bytes) (is_whole : Bool) → HasArrived terms log of_client index head rule content is_whole → HasArrived terms (log ++ h ∷ []) of_client index head rule content is_whole
arrived_still terms log h grown asked_on of_client index head rule content is_whole w = record {
  number = w.number;
  before = w.before;
  text = w.text;
  raw = w.raw;
  later = w.later ++ got_in w.number h;
  stream = grown w.number ∙ ap (λ (xs : Bytes). xs ++ got_in w.number h) w.stream ∙ append_assoc ((w.before ++ w.text) ++ w.raw) w.later (got_in w.number h);
  read = ap response_at (ap (λ (xs : Bytes). w.text ++ xs) (sym (append_assoc w.raw w.later (got_in w.number h))) ∙ sym (append_assoc w.text (w.raw ++ w.later) (got_in w.number h))) ∙ whole_more (w.text ++ (w.raw ++ w.later)) (got_in w.number h) head w.read;
  cut = w.cut;
  final = w.final;
  ask = w.ask;
  asked = asked_on w.number w.ask w.asked;
  ruled = w.ruled;
  own = w.own;
  its_own = own_still terms log h w.number of_client index w.own w.its_own;
  one = w.one;
  data_are = w.data_are;
  ends = λ is. whole_still log h w.number ((w.before ++ w.text) ++ w.raw) rule w.raw (w.ends is);
}

-- ---- whose response it is

-- the exchange of a client that is here now stood at the beginning of the read
pub its_own_now : (terms : List Term) (front behind log : Log) → front ++ behind ≡ log → (number : ℕ) (e : Exchange) (d : Client) → Stood (state_after terms front) number e.number d.number → Stem (state_after terms front).clients d → (own : Exchange) × WasItsOwn terms log number d.number d.index own × (own.number ≡ e.number)
its_own_now terms front behind log parts number e d stood stem = (
  stood.was,
  record {
    front = front;
    behind = behind;
    parts = parts;
    then = record {
      there = stood.there;
      conn = stood.conn;
      conn_there = stood.conn_there;
      numbered = stood.conn_numbered;
      line = stood.line;
      asker = stem.was;
      asker_there = stem.there;
      asks = ap (λ (o : Option ℕ). is_this stem.was.number o) stood.asker ∙ ap (λ n. n == stem.was.number) stem.number ∙ number_same stem.was.number;
      client_is = sym stem.number;
      request_is = sym stem.index;
    };
  },
  stood.numbered,
)

-- ---- what came of an answer

-- of what is still to be read, so much belongs to its body
pub arrived_by : (terms : List Term) (log : Log) (number : ℕ) (end : Bytes) (expects : Option ℕ) (a : Answer) (of_client index : ℕ) (own : Exchange) → Began (got_of number log) end (WasAskedOn terms log number) expects a → WasItsOwn terms log number of_client index own → expects ≡ Some own.number
    → (raw later : Bytes) → a.raw ++ end ≡ raw ++ later → (is_whole : Bool) → ((stream : Bytes) → got_of number log ≡ stream ++ later → is_whole ≡ true → IsWhole log number stream a.rule raw) → HasArrived terms log of_client index a.head a.rule (body_of a.rule raw).payload is_whole
arrived_by terms log number end expects a of_client index own w its_own expected raw later parts is_whole ends = record {
  number = number;
  before = w.before;
  text = w.head;
  raw = raw;
  later = later;
  stream = stream;
  read = ap (λ (xs : Bytes). response_at (w.head ++ xs)) (sym parts) ∙ w.read;
  cut = w.cut;
  final = w.final;
  ask = w.ask;
  asked = w.asks;
  ruled = w.ruled;
  own = own;
  its_own = its_own;
  one = same_number (sym expected ∙ w.expected);
  data_are = refl;
  ends = ends ((w.before ++ w.head) ++ raw) stream;
}
  where
    same_number : Some own.number ≡ Some w.ask.number → own.number ≡ w.ask.number
    same_number is = cc is

    stream : got_of number log ≡ ((w.before ++ w.head) ++ raw) ++ later
    stream = w.stream ∙ ap (λ (xs : Bytes). w.before ++ w.head ++ xs) parts ∙ sym (append_assoc (w.before ++ w.head) raw later)

-- it is whole at the end of its connection
pub ends_whole : (a : Answer) → is_whole_at_end a ≡ true → ending_in a.rule (body_of a.rule a.raw).outcome ≡ EndsWhole
ends_whole a is = by (ending_in a.rule (body_of a.rule a.raw).outcome) is
  where
    by : (e : Ending) → (elim e as (λ c. Bool) [ EndsWhole ↦ true | Short ↦ false ]) ≡ true → e ≡ EndsWhole
    by EndsWhole so = refl
    by Short so = absurd (cc so)
