use Rattle.std.proofs.Common.{◌≡◌, ℕ, Option, None, Ok, Some, ap, subst, sym, ◌∙◌}
use Rattle.serve_peers.proofs.CopySteps.{closed, of_parts, parted}
use Rattle.serve_peers.specs.Copies.{Advances, anew_left, begun_anew, copy_in, most_at}
use Rattle.serve_peers.proofs.copies.Copies.slice.Goals as goal

pub returns-in-Ok-Some : goal.returns-in-Ok-Some
returns-in-Ok-Some g c =
    let copy = of_parts c.into_parts-rows.result in
    let same : c.most_at.result ≡ most_at (begun_anew c.args.touched copy.anew) = c.most_at.ensures ∙ ap most_at c.begun_anew-anew.ensures in
    let advances = c.slice_on.ensures.advances (Some c.in-Ok-Some.progress) (c.in-Ok-Some.is ∙ ap Ok c.in-Ok-Some.field-0-is) in
    record {
      looks = c.slice_on.ensures.looks;
      part = (
        copy,
        _,
        sym c.take.ensures.value ∙ c.in-Some.is ∙ ap Some (parted c.in-Some.copied c.into_parts-rows.result c.into_parts-rows.ensures),
        c.put.ensures,
        c.under_way-account.ensures,
        subst (λ (most : Option ℕ). Advances g.S.Store g.T.Store c.args.touched most copy.progress (Some c.in-Ok-Some.progress) c.args.source.now c.slice_on.new.source copy.rows c.slice_on.new.rows) same advances,
        c.anew_left-anew.ensures ∙ ap (anew_left c.in-Ok-Some.progress) c.begun_anew-anew.ensures,
      );
    }

pub returns-in-Ok-None : goal.returns-in-Ok-None
returns-in-Ok-None g c =
    let copy = of_parts c.into_parts-rows.result in
    record {
      looks = c.slice_on.ensures.looks;
      part = closed g.S.Store g.T.Store c.args.touched c.args.source.now c.slice_on.new.source c.close.result (copy_in c.args.self.now) (copy_in c.close.new.self) c.close.ensures.done
          (copy, c.slice_on.new.rows, sym c.take.ensures.value ∙ c.in-Some.is ∙ ap Some (parted c.in-Some.copied c.into_parts-rows.result c.into_parts-rows.ensures), c.close.ensures.same ∙ c.take.ensures.after, (c.slice_on.ensures.advances None (c.in-Ok-None.is ∙ ap Ok c.in-Ok-None.field-0-is)).slices)
          (c.close.ensures.same ∙ c.take.ensures.after);
    }
