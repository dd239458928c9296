-- Faults of other layers as faults of the words.
use Rattle.clap.specs.declared.error.kind.ErrorKind.{ErrorKind}
use Rattle.clap.specs.declared.error.kind.ErrorKind.TheVariants as kinds
use Rattle.path_name.specs.declared.fault.PathFault.{PathFault}
use Rattle.path_name.specs.declared.fault.PathFault.TheVariants as paths
use Rattle.composer_words.specs.declared.fault.WordsFault.{WordsFault}
use Rattle.composer_words.specs.declared.fault.WordsFault.TheVariants.{Usage, OutOfMemory}

-- a text that is no path
abbrev pub fault_of_path : PathFault → WordsFault
fault_of_path paths.OutOfMemory = OutOfMemory
fault_of_path (paths.BadSegment _) = Usage
fault_of_path (paths.AboveRoot _) = Usage

-- Words that the simple command refuses; asking for help is refused too.
abbrev pub fault_of_kind : ErrorKind → WordsFault
fault_of_kind kinds.OutOfMemory = OutOfMemory
fault_of_kind _ = Usage
