-- A strong tag with zeros behind it fills its room.
use Rattle.std.proofs.Common.{◌≡◌, ℕ, ◌-◌, ◌≤◌, true, List, ◌++◌, length, drop, replicate, ap, ◌∙◌, arith, length-append}
use Rattle.std.proofs.lemmas.List.{length-replicate, drop-replicate}
use Rattle.std.proofs.Math.Seq.{take-append_seam, drop-append_seam}
use Rattle.pp_valid.specs.Tags.{is_strong_tag}
use Rattle.pp_valid.specs.TagText.{IsTagIn}

abbrev zeros : ℕ → List ℕ
zeros n = replicate n 0

pub tag_room : (text : List ℕ) → length text ≤ 1024 → is_strong_tag text ≡ true → IsTagIn (text ++ zeros (1024 - length text)) (length text)
tag_room text short strong =
    let some : length (zeros (1024 - length text)) ≡ 1024 - length text = length-replicate {A = ℕ} (1024 - length text) 0 in
    record {
      room_full = omega (arith, length-append text (zeros (1024 - length text)), some);
      len_within = short;
      strong = ap is_strong_tag (take-append_seam text (zeros (1024 - length text))) ∙ strong;
      zeros = drop-append_seam text (zeros (1024 - length text));
    }

-- a text that was copied to the front of zeros
pub copied : (text front : List ℕ) → front ≡ text → front ++ drop (length text) (zeros 1024) ≡ text ++ zeros (1024 - length text)
copied text front is =
    ap (λ (t : List ℕ). t ++ drop (length text) (zeros 1024)) is
    ∙ ap (λ (z : List ℕ). text ++ z) (drop-replicate {X = ℕ} (length text) 1024 0)
