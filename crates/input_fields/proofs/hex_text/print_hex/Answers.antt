use Rattle.std.proofs.Common.{[], ◌++◌, refl, ap, sym, subst, ◌∙◌, append_assoc}
use Rattle.hex.specs.Hex.{encode_lower}
use Rattle.std.specs.Io.KnownBytes.{Appends}
use Rattle.std.proofs.KnownBytes.{Appends-nil, Appends-trans}
use Rattle.input_fields.proofs.Digits.{encode_lower-append, encode_lower-nil, split_front}
use Rattle.input_fields.proofs.hex_text.print_hex.Goals as goal

pub loop-rest-init : goal.loop-rest-init
loop-rest-init g c = ([], refl, subst (Appends _ _) (sym encode_lower-nil) (Appends-nil _))

pub loop-rest-preserved : goal.loop-rest-preserved
loop-rest-preserved g c =
    let (done, split, printed) = c.loop-rest.invariant in
    let first = c.split_at.result.0.now in
    let more = c.split_at.result.1.now in
    let whole = split_front _ c.loop-rest.rest.now first more c.split_at.ensures.front
    c.split_at.ensures.back in (
      done ++ first,
      split ∙ ap (λ l. done ++ l) whole ∙ sym (append_assoc done first more),
      subst (Appends _ _) (sym (encode_lower-append done first))
          (Appends-trans _ _ _ (encode_lower done) (encode_lower first) printed
          c.in_ok-print_chunk.ensures),
    )
