-- The text of an ask, as it is written: it fits where it was written whole.
use Rattle.std.proofs.Common.{arith, ◌≡◌, ◌↔◌, ◌≤◌, ℕ, Bool, true, List, length, IsTrue, Result, Ok, Err, OnOk, is_ok}
use Rattle.std.specs.Prelude.{⊤}
use Rattle.pp_ask.specs.Texts.{ask_text}
use Rattle.pp_ask.specs.declared.kind.AskKind.{AskKind}
use Rattle.pp_ask.specs.declared.lines.TooLong.{TooLong}
use Rattle.pp_flow.specs.declared.errand.Kind.{Kind}
use Rattle.pp_head.specs.Request.{Request}
use Rattle.pp_seats.specs.Fetches.{asked_as}
use Rattle.pp_seats.specs.declared.key.Key.{Key}
use Rattle.pp_target.specs.Key.{Key as Named, key_in}
use Rattle.pp_target.specs.declared.target.Place.{Place}
use Rattle.pp_decide.specs.Decide.{fits, text_for}
use Rattle.pp_state.specs.declared.state.State.{State}

pub text_is : (s : State) (head : Request) (key : Key) (kind : Kind) (ask : AskKind) (text name : List ℕ) (place : Place)
    → ((request : Request) (k : Named) (n : List ℕ) → ask_text ask request k n ≡ ask_text (asked_as kind) request k n)
    → text ≡ key.text.items → place ≡ key.place → name ≡ s.name.items
    → ask_text ask head (key_in text place) name ≡ text_for s head key kind
text_is s head key kind ask text name place asks texts places names = rw (texts, places, names) (asks head (key_in key.text.items key.place) s.name.items)

pub fits_if : (text : List ℕ) (b : Bool) → (IsTrue b ↔ (length text ≤ 16384)) → b ≡ fits text
fits_if text b is = grind arith

pub written_if : (text out : List ℕ) (b : Bool) (r : Result ⊤ TooLong) → b ≡ is_ok r → OnOk r (out ≡ text) → b ≡ true → out ≡ text
written_if text out b (Ok x) is on so = on
written_if text out b (Err e) is on so = absurd (cc (is, so))
