-- What is refused of a file's document comes from the tree, and no device failed.
use Rattle.std.proofs.Common.{◌≡◌, false, IsTrue, refl}
use Rattle.run_answers.specs.Faults.{is_of_tree, is_of_device}
use Rattle.run_answers.specs.declared.refusal.NamedFile.{NamedFile}
use Rattle.run_answers.specs.declared.refusal.NamedFile.TheVariants as files
use Rattle.run_answers.specs.declared.refusal.DocumentFault.{DocumentFault}
use Rattle.run_answers.specs.declared.refusal.Refusal.TheVariants.{BadDocument}

pub from_tree : (file : NamedFile) (fault : DocumentFault) → IsTrue (is_of_tree (BadDocument file fault))
from_tree files.Manifest fault = refl
from_tree (files.Member path) fault = refl
from_tree files.Lock fault = refl
from_tree files.Installed fault = refl

pub no_device : (file : NamedFile) (fault : DocumentFault) → is_of_device (BadDocument file fault) ≡ false
no_device files.Manifest fault = refl
no_device (files.Member path) fault = refl
no_device files.Lock fault = refl
no_device files.Installed fault = refl
