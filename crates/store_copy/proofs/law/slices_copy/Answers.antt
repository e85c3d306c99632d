use Rattle.store_copy.proofs.SoFar.{slices_copied}
use Rattle.store_copy.proofs.law.slices_copy.Goals as goal

pub returns : goal.returns
returns c = λ source later before after none no_device slices. slices_copied source later before after none no_device slices
