-- What one more piece of a body brings, and that it goes into the pipe behind what went in before.
use Rattle.std.proofs.Common.{◌≡◌, ◌⊎◌, refl, inl, inr, ℕ, Bool, true, false, List, [], ◌∷◌, ◌++◌, length, drop, sym, subst, ap, ◌∙◌, append_assoc}
use Rattle.std.proofs.lemmas.List.{append-nil}
use Rattle.std.proofs.lemmas.List.Folds.{concat-append}
use Rattle.std.specs.List.{concat}
use Rattle.pp_framing.proofs.BodiesExact.{read_from-first_place}
use Rattle.pp_framing.specs.Body.{Body}
use Rattle.pp_framing.specs.Places.{first_place, datum, step, read_from}
use Rattle.pp_framing.specs.Rules.{body_of}
use Rattle.pp_framing.specs.declared.body.BodyRule.{BodyRule}
use Rattle.pp_framing.specs.declared.place.Place.TheVariants.{Over, Wrong}
use Rattle.pp_framing.specs.declared.place.Place.{Place}
use Rattle.pp_pass.specs.Pipe.{Pipe, finished, spelled, spelled_end}
use Rattle.pp_reply.specs.Texts.{passed_head}
use Rattle.pp_law.specs.Lists.{Bytes}
use Rattle.pp_law.specs.Passing.{poured}
use Rattle.pp_law.specs.State.{Client, Passed}
use Rattle.pp_laws_passed.specs.Passed.{IsShown, all_spelled, head_left, is_in_passed, last_of, to_say}
use Rattle.pp_laws.specs.Runs.{IsIn}
use Rattle.pp_laws.proofs.Lists.{in_push}
use Rattle.pp_laws_passed.proofs.Fed.{Relays}

-- ---- the data of a longer text

read_more : (place : Place) (text more : List ℕ) → (later : List ℕ) × ((read_from place (text ++ more)).payload ≡ (read_from place text).payload ++ later)
read_more Over text more = ([], refl)
read_more Wrong text more = ([], refl)
read_more place [] more = ((read_from place more).payload, refl)
read_more place (b ∷ text) more =
    let r = read_more (step place b) text more in
    (r.0, ap (λ (xs : List ℕ). datum place b ++ xs) r.1 ∙ sym (append_assoc (datum place b) (read_from (step place b) text).payload r.0))

-- the data of a text are the front of those of a longer one
pub payload_more : (rule : BodyRule) (text more : List ℕ) → (later : List ℕ) × ((body_of rule (text ++ more)).payload ≡ (body_of rule text).payload ++ later)
payload_more rule text more =
    let r = read_more (first_place rule) text more in
    (r.0, ap (λ (b : Body). b.payload) (sym (read_from-first_place rule (text ++ more))) ∙ r.1 ∙ ap (λ (b : Body). b.payload ++ r.0) (read_from-first_place rule text))

behind_front : (xs ys : Bytes) → drop (length xs) (xs ++ ys) ≡ ys
behind_front [] ys = refl
behind_front (x ∷ xs) ys = behind_front xs ys

-- what it grew by is what the law puts into the pipe
pub payload_grown : (rule : BodyRule) (text more : List ℕ) → (body_of rule (text ++ more)).payload ≡ (body_of rule text).payload ++ drop (length (body_of rule text).payload) (body_of rule (text ++ more)).payload
payload_grown rule text more =
    let w = payload_more rule text more in
    w.1 ∙ ap (λ (xs : Bytes). (body_of rule text).payload ++ xs) (sym (behind_front (body_of rule text).payload w.0)) ∙ ap (λ (xs : Bytes). (body_of rule text).payload ++ drop (length (body_of rule text).payload) xs) (sym w.1)

-- ---- one more piece in the pipe

spelled_push : (is_coded : Bool) (pieces : List Bytes) (piece : Bytes) → all_spelled is_coded (pieces ++ piece ∷ []) ≡ all_spelled is_coded pieces ++ spelled is_coded piece
spelled_push is_coded [] piece = append-nil (spelled is_coded piece)
spelled_push is_coded (p ∷ pieces) piece = ap (λ (xs : Bytes). spelled is_coded p ++ xs) (spelled_push is_coded pieces piece) ∙ sym (append_assoc (spelled is_coded p) (all_spelled is_coded pieces) (spelled is_coded piece))

one_piece : (piece : Bytes) → concat (piece ∷ []) ≡ piece
one_piece piece = append-nil piece

-- nothing stands behind the data while the body goes on
nothing_last : (pipe : Pipe) → pipe.is_finished ≡ false → last_of pipe ≡ []
nothing_last pipe going = ap (λ t. elim t as (λ c. Bytes) [ true ↦ spelled_end pipe.is_coded | false ↦ [] ]) going

-- as much stands in a pipe that goes on as is spelled of the pieces
pub in_pipe : (pipe : Pipe) (pieces : List Bytes) → pipe.is_finished ≡ false → all_spelled pipe.is_coded pieces ++ last_of pipe ≡ all_spelled pipe.is_coded pieces
in_pipe pipe pieces going = ap (λ (xs : Bytes). all_spelled pipe.is_coded pieces ++ xs) (nothing_last pipe going) ∙ append-nil (all_spelled pipe.is_coded pieces)

pub poured_ends : (fresh : Bytes) (pipe : Pipe) → (poured fresh pipe).is_finished ≡ pipe.is_finished
poured_ends [] pipe = refl
poured_ends (b ∷ bytes) pipe = refl

-- behind all that is there stands one more
behind : (before say pipe more earlier head text : Bytes) → before ++ (say ++ pipe) ≡ earlier ++ (head ++ text) → before ++ (say ++ (pipe ++ more)) ≡ earlier ++ (head ++ (text ++ more))
behind before say pipe more earlier head text is =
    ap (λ (xs : Bytes). before ++ xs) (sym (append_assoc say pipe more)) ∙ sym (append_assoc before (say ++ pipe) more) ∙ ap (λ (xs : Bytes). xs ++ more) is
    ∙ append_assoc earlier (head ++ text) more ∙ ap (λ (xs : Bytes). earlier ++ xs) (append_assoc head text more)

-- a client that was as this one, but for the pipe
module _ (said now : Bytes) (c d : Client) (p : Passed) (content : Bytes) (same_said : now ≡ said) (stage : c.stage ≡ d.stage) (left : c.interim_left ≡ d.interim_left) (going : p.pipe.is_finished ≡ false) (r : Relays said d p content) where
  left_same : to_say c ≡ to_say d
  left_same = ap (λ (xs : Bytes). xs ++ head_left c.stage) left ∙ ap (λ st. d.interim_left ++ head_left st) stage

  on_it : is_in_passed c.stage ≡ true → is_in_passed d.stage ≡ true
  on_it on = sym (ap is_in_passed stage) ∙ on

  off_it : is_in_passed c.stage ≡ false → is_in_passed d.stage ≡ false
  off_it off = sym (ap is_in_passed stage) ∙ off

  same_left : (xs : Bytes) → now ++ (to_say c ++ xs) ≡ said ++ (to_say d ++ xs)
  same_left xs = ap (λ (ys : Bytes). ys ++ (to_say c ++ xs)) same_said ∙ ap (λ (ys : Bytes). said ++ (ys ++ xs)) left_same

  -- what stands in the pipe, and what was shown, is spelled of the pieces alone
  waiting_so : is_in_passed c.stage ≡ false → p.pipe.bytes ≡ all_spelled p.pipe.is_coded r.pieces
  waiting_so off = r.waiting (off_it off) ∙ in_pipe p.pipe r.pieces going

  shown_so : is_in_passed c.stage ≡ true → IsShown said (to_say d) p (all_spelled p.pipe.is_coded r.pieces)
  shown_so on = subst (IsShown said (to_say d) p) (in_pipe p.pipe r.pieces going) (r.shown (on_it on))

  -- with these bytes behind it
  shown_more : (q : Passed) (more : Bytes) → q.head ≡ p.head → q.rule ≡ p.rule → q.pipe.bytes ≡ p.pipe.bytes ++ more → is_in_passed c.stage ≡ true → IsShown now (to_say c) q (all_spelled p.pipe.is_coded r.pieces ++ more)
  shown_more q more head rule bytes on =
      let w = shown_so on in
      record {
        earlier = w.earlier;
        head = w.head;
        minor = w.minor;
        is_head = w.is_head;
        name = w.name;
        keeps = w.keeps;
        spelled = w.spelled ∙ ap (λ h. passed_head h p.rule w.minor w.is_head w.name w.keeps) (sym head) ∙ ap (λ x. passed_head q.head x w.minor w.is_head w.name w.keeps) (sym rule);
        stream =
            ap (λ (xs : Bytes). now ++ (to_say c ++ xs)) bytes ∙ same_left (p.pipe.bytes ++ more)
            ∙ behind said (to_say d) p.pipe.bytes more w.earlier w.head (all_spelled p.pipe.is_coded r.pieces) w.stream;
      }

  -- one more piece
  pub relays_poured : (fresh : Bytes) → Relays now c (record p { pipe = poured fresh p.pipe }) (content ++ fresh)
  relays_poured [] = record {
    pieces = r.pieces;
    all = r.all ∙ sym (append-nil content);
    full = r.full;
    waiting = λ off. r.waiting (off_it off);
    shown = λ on. let w = r.shown (on_it on) in record { earlier = w.earlier; head = w.head; minor = w.minor; is_head = w.is_head; name = w.name; keeps = w.keeps; spelled = w.spelled; stream = same_left p.pipe.bytes ∙ w.stream };
  }
  relays_poured (b ∷ bytes) = record {
    pieces = r.pieces ++ (b ∷ bytes) ∷ [];
    all = concat-append r.pieces ((b ∷ bytes) ∷ []) ∙ ap (λ (xs : Bytes). concat r.pieces ++ xs) (one_piece (b ∷ bytes)) ∙ ap (λ (xs : Bytes). xs ++ b ∷ bytes) r.all;
    full = λ piece i. more piece (in_push piece r.pieces (b ∷ bytes) i);
    waiting = λ off. ap (λ (xs : Bytes). xs ++ spelled p.pipe.is_coded (b ∷ bytes)) (waiting_so off) ∙ text;
    shown = λ on. subst (IsShown now (to_say c) (record p { pipe = poured (b ∷ bytes) p.pipe })) text (shown_more (record p { pipe = poured (b ∷ bytes) p.pipe }) (spelled p.pipe.is_coded (b ∷ bytes)) refl refl refl on);
  }
    where
      more : (piece : Bytes) → IsIn piece r.pieces ⊎ (piece ≡ b ∷ bytes) → piece ≡ [] → ⊥
      more piece (inl i) none = r.full piece i none
      more piece (inr is) none = let both : b ∷ bytes ≡ [] = sym is ∙ none in cc both

      text : all_spelled p.pipe.is_coded r.pieces ++ spelled p.pipe.is_coded (b ∷ bytes) ≡ all_spelled p.pipe.is_coded (r.pieces ++ (b ∷ bytes) ∷ []) ++ last_of p.pipe
      text = sym (spelled_push p.pipe.is_coded r.pieces (b ∷ bytes)) ∙ sym (in_pipe p.pipe (r.pieces ++ (b ∷ bytes) ∷ []) going)

  -- the end of the body
  pub relays_finished : Relays now c (record p { pipe = finished p.pipe }) content
  relays_finished = record {
    pieces = r.pieces;
    all = r.all;
    full = r.full;
    waiting = λ off. ap (λ (xs : Bytes). xs ++ spelled_end p.pipe.is_coded) (waiting_so off);
    shown = λ on. shown_more (record p { pipe = finished p.pipe }) (spelled_end p.pipe.is_coded) refl refl refl on;
  }
