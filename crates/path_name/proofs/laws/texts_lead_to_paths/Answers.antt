use Rattle.path_name.proofs.ReadPaths.{path_of_is_path, folder_of_is_path, followed_is_path, followed-root}
use Rattle.path_name.proofs.laws.texts_lead_to_paths.Goals as goal

pub returns-clause-path : goal.returns-clause-path
returns-clause-path c = path_of_is_path

pub returns-clause-folder : goal.returns-clause-folder
returns-clause-folder c = folder_of_is_path

pub returns-clause-followed : goal.returns-clause-followed
returns-clause-followed c = followed_is_path

pub returns-clause-from_root : goal.returns-clause-from_root
returns-clause-from_root c = followed-root
