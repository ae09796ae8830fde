-- Streams, connections, the clock and the turns of a log that goes on.
use Rattle.std.proofs.Common.{◌≡◌, ℕ, List, [], ◌∷◌, ◌++◌, refl, sym, ◌∙◌, ap, append_assoc, None}
use Rattle.std.proofs.lemmas.List.Sums.{fold-append}
use Rattle.std.specs.Prelude.{fold}
use Rattle.std.specs.List.{flat_map}
use Rattle.pp_world.specs.declared.happening.Happening.{Happening}
use Rattle.pp_world.specs.Log.{Log}
use Rattle.pp_world.specs.Connections.{side_after, side_of, top_with, top_of}
use Rattle.pp_world.specs.Life.{life_with, life_of, turn_with, turn_of, turns_with, turns_of, now_with, now_of}
use Rattle.pp_world.specs.Streams.{heard_in, said_in, asked_in, got_in, heard, said, asked, got}

flat_map-append : {A B : Type 0} (f : A → List B) (xs ys : List A) → flat_map f (xs ++ ys) ≡ flat_map f xs ++ flat_map f ys
flat_map-append f [] ys = refl
flat_map-append f (x ∷ xs) ys = ap (λ (bs : List _). f x ++ bs) (flat_map-append f xs ys) ∙ sym (append_assoc (f x) (flat_map f xs) (flat_map f ys))

pub heard-append : (c : ℕ) (log more : Log) → heard c (log ++ more) ≡ heard c log ++ heard c more
unfolding heard
heard-append c log more = flat_map-append (heard_in c) log more

pub said-append : (c : ℕ) (log more : Log) → said c (log ++ more) ≡ said c log ++ said c more
unfolding said
said-append c log more = flat_map-append (said_in c) log more

pub asked-append : (k : ℕ) (log more : Log) → asked k (log ++ more) ≡ asked k log ++ asked k more
unfolding asked
asked-append k log more = flat_map-append (asked_in k) log more

pub got-append : (k : ℕ) (log more : Log) → got k (log ++ more) ≡ got k log ++ got k more
unfolding got
got-append k log more = flat_map-append (got_in k) log more

pub side_of-append : (id : ℕ) (log more : Log) → side_of id (log ++ more) ≡ fold (side_after id) (side_of id log) more
unfolding side_of
side_of-append id log more = fold-append (side_after id) None log more

pub side_of-push : (id : ℕ) (log : Log) (happening : Happening) → side_of id (log ++ happening ∷ []) ≡ side_after id (side_of id log) happening
side_of-push id log happening = side_of-append id log (happening ∷ [])

pub top_of-append : (log more : Log) → top_of (log ++ more) ≡ fold top_with (top_of log) more
unfolding top_of
top_of-append log more = fold-append top_with 0 log more

pub top_of-push : (log : Log) (happening : Happening) → top_of (log ++ happening ∷ []) ≡ top_with (top_of log) happening
top_of-push log happening = top_of-append log (happening ∷ [])

pub life_of-append : (log more : Log) → life_of (log ++ more) ≡ fold life_with (life_of log) more
unfolding life_of
life_of-append log more = fold-append life_with [] log more

pub turn_of-append : (log more : Log) → turn_of (log ++ more) ≡ fold turn_with (turn_of log) more
unfolding turn_of
turn_of-append log more = fold-append turn_with [] log more

pub turns_of-append : (log more : Log) → turns_of (log ++ more) ≡ fold turns_with (turns_of log) more
unfolding turns_of
turns_of-append log more = fold-append turns_with 0 log more

pub now_of-append : (log more : Log) → now_of (log ++ more) ≡ fold now_with (now_of log) more
unfolding now_of
now_of-append log more = fold-append now_with 0 log more
