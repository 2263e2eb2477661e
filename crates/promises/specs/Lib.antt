pub mod Night
pub mod NightParts
pub mod Demands
pub mod HostNight
pub mod Grounds
pub mod FileFaults
pub mod LogFaults
